use Rattle.std.proofs.Common.{subst, sym}
use Rattle.sd_base.specs.Net.{Net}
use Rattle.sd_base.specs.Schedules.{HasInputs}
use Rattle.sd_base.specs.Connection.{IsConnected}
use Rattle.firing.specs.Wiring.{IsWiringOf}
use Rattle.guide.proofs.rating.evaluate_whole.Goals as goal

pub invariant_of-copied : goal.invariant_of-copied
invariant_of-copied g c = record { wired = subst (λ (n : Net). IsWiringOf n c.args.wired.now.wiring.now) (sym c.in_ok-copy.ensures) c.args.wired.now.wired }

pub evaluate_live-requires-2-clause-connected : goal.evaluate_live-requires-2-clause-connected
evaluate_live-requires-2-clause-connected g c = subst IsConnected (sym c.in_ok-copy.ensures) c.requires.connected

pub evaluate_live-requires-2-clause-inputs : goal.evaluate_live-requires-2-clause-inputs
evaluate_live-requires-2-clause-inputs g c = subst HasInputs (sym c.in_ok-copy.ensures) c.requires.inputs
