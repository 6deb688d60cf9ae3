use Rattle.storage.proofs.IncidentInputs.{inputs-incident, incident-inputs}
use Rattle.storage.proofs.laws.incident_nets_have_inputs.Goals as goal

pub returns-clause-inputs : goal.returns-clause-inputs
returns-clause-inputs c = λ net ds incident dist. incident-inputs net incident ds dist

pub returns-clause-incident : goal.returns-clause-incident
returns-clause-incident c = inputs-incident
