use Rattle.std.proofs.Common.{List, subst, sym}
use Rattle.critical.specs.declared.walk.Met.{Met}
use Rattle.critical.specs.inside.Trails.{ComesAgain, GoesAlong}
use Rattle.critical.proofs.CyclesAvoidSpaces.{round-unspaced}
use Rattle.critical.proofs.unspaced.Pass.closed.Goals as goal

pub closed_cycle-requires-clause-again : goal.closed_cycle-requires-clause-again
closed_cycle-requires-clause-again g c =
    subst (λ (xs : List Met). ComesAgain (g.F.Firing.net c.args.self.now.wired.now.net.now) c.args.self.now.table.now xs c.args.way.now.from) (sym c.as_slice-met.ensures.value) c.requires.round.again

pub returns-clause-unspaced : goal.returns-clause-unspaced
returns-clause-unspaced g c =
    round-unspaced (g.F.Firing.net c.args.self.now.wired.now.net.now) c.args.self.now.table.now c.args.way.now.met.items c.args.way.now.from c.in_ok-cycle.cycle c.requires.round c.in_ok-cycle.ensures.critical
    (subst (λ (xs : List Met). GoesAlong xs c.args.way.now.from c.in_ok-cycle.cycle.steps) c.as_slice-met.ensures.value c.in_ok-cycle.ensures.along)
