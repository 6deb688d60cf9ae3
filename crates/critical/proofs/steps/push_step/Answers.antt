use Rattle.std.proofs.Common.{◌-◌, ◌++◌, ◌∷◌, [], ap, ◌∙◌, sym, refl, arith}
use Rattle.std.specs.Vec.{vec_len}
use Rattle.std.proofs.lemmas.List.FromFn.{map-range_with_len_more}
use Rattle.critical.specs.declared.cycle.CycleStep.{CycleStep}
use Rattle.critical.specs.declared.stretch.Stretch.{Stretch}
use Rattle.critical.specs.Stretches.{step_at, steps_in}
use Rattle.critical.proofs.StretchesGiveSteps.{last-longer}
use Rattle.critical.proofs.steps.push_step.Goals as goal

pub returns-then-is_next-clause-ok : goal.returns-then-is_next-clause-ok
returns-then-is_next-clause-ok c =
    last-longer steps_in c.args.stretches.now.items (vec_len c.args.stretches.now - 1) _ c.in-Some.last.now c.args.step (omega (arith, c.args.stretches.now.ok, c.in-Some.ensures.variant.0 refl))
    (map-range_with_len_more (step_at c.in-Some.last.now) 0 c.in-Some.last.now.count c.in-Some.last.now.count (omega arith)
    ∙ ap (λ (x : CycleStep). steps_in c.in-Some.last.now ++ x ∷ []) (sym (c.if-is_next.ensures.next refl))
    ∙ ap (λ (s : Stretch). steps_in s ++ c.args.step ∷ []) c.in-Some.ensures.value)
