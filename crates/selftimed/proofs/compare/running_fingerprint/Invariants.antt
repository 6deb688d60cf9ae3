use Rattle.std.proofs.Common.{◌≡◌, take}
use Rattle.selftimed.specs.inside.Standings.{remaining_now}
use Rattle.selftimed.specs.Fingerprints.{running_fingerprint_of}
use Rattle.selftimed.proofs.compare.running_fingerprint.Given as goal

abbrev pub invariant-loop-actor : goal.invariant-loop-actor
invariant-loop-actor l = l.fingerprint ≡ running_fingerprint_of (remaining_now l.moment (take l.actor l.actors))
