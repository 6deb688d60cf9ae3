use Rattle.explore.proofs.IncidentNetsExplorable.{incident-explorable}
use Rattle.explore.proofs.laws.incident_nets_are_explorable.Goals as goal

pub returns : goal.returns
returns c = incident-explorable
