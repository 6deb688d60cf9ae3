use Rattle.std.proofs.Common.{ℕ, ◌<◌}
use Rattle.storage.specs.IncidentActors.{IsIncident}
use Rattle.storage.proofs.incident.first_isolated.Given as goal

abbrev pub invariant-loop-actor : goal.invariant-loop-actor
invariant-loop-actor g l = (a : ℕ) → a < l.actor → IsIncident (g.F.Firing.net l.net) a
