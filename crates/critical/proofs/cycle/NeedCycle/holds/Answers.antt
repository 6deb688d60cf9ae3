use Rattle.std.proofs.Common.{List, subst, sym, arith}
use Rattle.critical.specs.declared.cycle.CycleStep.{CycleStep}
use Rattle.critical.specs.Cycles.{IsChain}
use Rattle.critical.proofs.FiringsStandApart.{first-actor}
use Rattle.critical.proofs.cycle.NeedCycle.holds.Goals as goal

pub closes_at-requires : goal.closes_at-requires
closes_at-requires g c = first-actor (g.F.Firing.net c.args.net.now) c.know_laws.ensures c.args.self.now.first c.args.self.now.steps
    (grind (arith, c.if-is_empty.ensures))
    (subst (λ (xs : List CycleStep). IsChain (g.F.Firing.net c.args.net.now) c.args.self.now.first xs) (sym c.stretches.ensures) c.in-Some.ensures.0)
