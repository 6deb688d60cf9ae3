use Rattle.std.proofs.Common.{◌∷◌, [], map, arith, append_assoc}
use Rattle.std.specs.List.{range_with_len}
use Rattle.std.proofs.lemmas.List.FromFn.{map-range_with_len_more}
use Rattle.critical.specs.Stretches.{step_at}
use Rattle.critical.proofs.steps.put_steps.Goals as goal

pub loop-behind-preserved : goal.loop-behind-preserved
loop-behind-preserved c =
    rw (c.in_ok-push.ensures.items, c.step.ensures, c.loop-behind.invariant, map-range_with_len_more (step_at c.args.stretch) 0 c.loop-behind.behind c.loop-behind.behind (omega arith))
    (append_assoc c.args.steps.now.items (map (step_at c.args.stretch) (range_with_len 0 c.loop-behind.behind)) (step_at c.args.stretch c.loop-behind.behind ∷ []))
