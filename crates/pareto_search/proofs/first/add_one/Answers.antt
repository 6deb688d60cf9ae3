use Rattle.std.proofs.Common.{◌≡◌, inl, inr, ⊎_elim, sym, ap, ◌∙◌, subst}
use Rattle.std.proofs.lemmas.Bool.{true≢false}
use Rattle.sd_base.specs.declared.numbers.Fraction.{Fraction}
use Rattle.covers.specs.Bounds.{IsAtMost}
use Rattle.pareto_search.specs.inside.Knowledge.{IsAbove}
use Rattle.pareto_search.proofs.RateOrder.{above-or}
use Rattle.pareto_search.proofs.SlowerBounds.{slower-more, slower-other}
use Rattle.pareto_search.proofs.first.add_one.Goals as goal

pub returns-in_ok-add-clause-added : goal.returns-in_ok-add-clause-added
returns-in_ok-add-clause-added c = λ lattice ts is.
    slower-more lattice c.args.due ts c.args.slower.now is c.args.telling.now c.reach.new.self c.in_ok-bound_of.field-0 (c.is_above.ensures.0 c.if-is_above.true) c.in_ok-bound_of.ensures c.reach.ensures.searched (c.reach.ensures.order ∙ c.add.ensures.order) (c.reach.ensures.lattice ∙ c.add.ensures.lattice)
    (ap (λ v. v.items) c.reach.ensures.bounds ∙ c.in_ok-add.ensures.added) c.reach.ensures.reached
    (subst (λ (r : Fraction). IsAtMost r c.reach.new.self.best) c.add.ensures.best c.reach.ensures.kept)
    (⊎_elim (λ (same : c.reach.new.self.best ≡ c.add.new.self.best). inl (same ∙ c.add.ensures.best)) (λ (same : c.reach.new.self.best ≡ c.args.telling.now.rate). inr same) c.reach.ensures.either)

pub returns-else-is_above-clause-added : goal.returns-else-is_above-clause-added
returns-else-is_above-clause-added c = λ lattice ts is.
    slower-other lattice c.args.due ts c.args.slower.now is c.args.telling.now
    (⊎_elim
    (λ (above : IsAbove c.args.due.rate c.args.telling.now.rate). absurd (true≢false (sym (c.is_above.ensures.1 above) ∙ c.if-is_above.false)))
    (λ (most : IsAtMost c.args.due.rate c.args.telling.now.rate). most)
    (above-or c.args.due.rate c.args.telling.now.rate))
