use Rattle.std.proofs.Common.{subst, sym}
use Rattle.sd_base.specs.Net.{Net}
use Rattle.sd_base.specs.Lawful.{Lawful}
use Rattle.sd_base.specs.Schedules.{HasInputs}
use Rattle.sd_base.specs.Connection.{IsConnected}
use Rattle.firing.specs.Wiring.{IsWiringOf}
use Rattle.liveness.specs.RoundAnswers.{AreReachedCounts}
use Rattle.storage.specs.BoundedNets.{bound}
use Rattle.guide.proofs.LiveNetsAreEvaluated.{bound-connected}
use Rattle.guide.proofs.ReachedCountsAreFound.{reached-again}
use Rattle.guide.proofs.rating.Trial.evaluate_on.Goals as goal

pub invariant_of-wired : goal.invariant_of-wired
invariant_of-wired g c = record { wired = subst (λ (n : Net). IsWiringOf n c.args.self.now.wiring.now) (sym c.requires.bounded) c.args.self.now.wired }

pub ending_from-requires : goal.ending_from-requires
ending_from-requires g c =
    let trial = c.args.self.now in
    let net = bound (g.F.Firing.net trial.net.now) trial.capacities.now.capacities in
    let laws : Lawful net = subst Lawful c.requires.bounded (g.met.B.Firing.lawful c.args.bounded.now) in
    subst (λ (n : Net). AreReachedCounts n trial.counts.now) (sym c.requires.bounded) (reached-again net laws trial.counts.now trial.reached)

pub evaluate_whole-requires-clause-connected : goal.evaluate_whole-requires-clause-connected
evaluate_whole-requires-clause-connected g c =
    subst IsConnected (sym c.requires.bounded) (bound-connected (g.F.Firing.net c.args.self.now.net.now) c.args.self.now.capacities.now.capacities c.requires.fits.connected)

pub evaluate_whole-requires-clause-inputs : goal.evaluate_whole-requires-clause-inputs
evaluate_whole-requires-clause-inputs g c = subst HasInputs (sym c.requires.bounded) c.requires.fits.inputs

pub returns-in_ok-evaluate_blocked-in-Blocked-clause-evaluated : goal.returns-in_ok-evaluate_blocked-in-Blocked-clause-evaluated
returns-in_ok-evaluate_blocked-in-Blocked-clause-evaluated g c = c.in_ok-evaluate_blocked-in-Blocked.ensures.evaluated c.args.states
