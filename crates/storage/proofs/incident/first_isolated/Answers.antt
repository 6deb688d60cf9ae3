use Rattle.std.proofs.Common.{below_more}
use Rattle.storage.specs.IncidentActors.{IsIncident}
use Rattle.storage.proofs.incident.first_isolated.Goals as goal

pub loop-actor-preserved : goal.loop-actor-preserved
loop-actor-preserved g c =
    below_more (λ a. IsIncident (g.F.Firing.net c.args.net.now) a) c.loop-actor.actor c.loop-actor.invariant (c.is_incident.ensures.0 c.if-not-is_incident.false)
