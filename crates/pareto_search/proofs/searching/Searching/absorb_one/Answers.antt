use Rattle.std.proofs.Common.{◌≡◌, inl, inr, ⊎_elim, ap, ◌∙◌, subst}
use Rattle.sd_base.specs.declared.numbers.Fraction.{Fraction}
use Rattle.covers.specs.Bounds.{IsAtMost}
use Rattle.pareto_search.proofs.TellingsAreAbsorbed.{absorbed-with, onward-with}
use Rattle.pareto_search.proofs.searching.Searching.absorb_one.Goals as goal

pub returns-clause-absorbed : goal.returns-clause-absorbed
returns-clause-absorbed g c =
    absorbed-with (g.F.Firing.net c.args.base.now.exploring.now.net.now) c.args.base.now.exploring.now.limits c.args.base.now.corner.now.capacities c.args.base.now.lattice.now c.requires.stands c.args.total c.args.place c.args.self.now c.requires.absorbed c.index-telling.result.now c.requires.place c.index-telling.ensures c.reach.new.self c.in_ok-bound.bound
    c.in_ok-bound.ensures c.reach.ensures.searched (c.reach.ensures.order ∙ c.add.ensures.order) (c.reach.ensures.lattice ∙ c.add.ensures.lattice) (ap (λ v. v.items) c.reach.ensures.bounds ∙ c.in_ok-add.ensures.added) c.reach.ensures.reached
    (subst (λ (r : Fraction). IsAtMost r c.reach.new.self.best) c.add.ensures.best c.reach.ensures.kept)
    (⊎_elim (λ (same : c.reach.new.self.best ≡ c.add.new.self.best). inl (same ∙ c.add.ensures.best)) (λ (same : c.reach.new.self.best ≡ c.index-telling.result.now.rate). inr same) c.reach.ensures.either) c.due_with-self.result c.due_with-self.ensures

pub returns-clause-onward : goal.returns-clause-onward
returns-clause-onward g c =
    onward-with (g.F.Firing.net c.args.base.now.exploring.now.net.now) c.args.base.now.exploring.now.limits c.args.base.now.corner.now.capacities c.args.base.now.lattice.now c.requires.stands c.args.total c.args.place c.args.self.now c.requires.absorbed c.index-telling.result.now c.requires.place c.index-telling.ensures c.reach.new.self c.in_ok-bound.bound
    c.in_ok-bound.ensures c.reach.ensures.searched (c.reach.ensures.order ∙ c.add.ensures.order) (c.reach.ensures.lattice ∙ c.add.ensures.lattice) (ap (λ v. v.items) c.reach.ensures.bounds ∙ c.in_ok-add.ensures.added) c.reach.ensures.reached
    (subst (λ (r : Fraction). IsAtMost r c.reach.new.self.best) c.add.ensures.best c.reach.ensures.kept)
    (⊎_elim (λ (same : c.reach.new.self.best ≡ c.add.new.self.best). inl (same ∙ c.add.ensures.best)) (λ (same : c.reach.new.self.best ≡ c.index-telling.result.now.rate). inr same) c.reach.ensures.either) c.due_with-self.result c.due_with-self.ensures
