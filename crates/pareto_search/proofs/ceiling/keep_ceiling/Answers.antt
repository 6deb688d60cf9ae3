use Rattle.covers.specs.declared.bound.Bound.{Bound}
use Rattle.pareto_search.proofs.CeilingKept.{ceiling-valid, standing-more}
use Rattle.pareto_search.proofs.ceiling.keep_ceiling.Goals as goal

pub returns-in_ok-add-clause-standing : goal.returns-in_ok-add-clause-standing
returns-in_ok-add-clause-standing g c = λ floor is.
    let b : Bound = record { caps = c.new-caps.result; rate = c.greatest-rate.result } in
    standing-more (g.F.Firing.net c.args.base.now.exploring.now.net.now) c.args.base.now.exploring.now.limits c.args.base.now.corner.now.capacities c.args.base.now.lattice.now c.requires.stands floor c.args.searching.now c.add.new.self b
    (ceiling-valid (g.F.Firing.net c.args.base.now.exploring.now.net.now) c.args.base.now.exploring.now.limits c.args.base.now.corner.now.capacities c.args.base.now.lattice.now c.requires.stands b (c.in_ok-is_greatest.ensures c.if-branch.true))
    c.add.ensures.searched c.add.ensures.order c.add.ensures.lattice c.in_ok-add.ensures.added c.add.ensures.best is
