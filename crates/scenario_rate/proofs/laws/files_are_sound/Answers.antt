use Rattle.scenario_rate.proofs.FileGraphs.{sound}
use Rattle.scenario_rate.proofs.laws.files_are_sound.Goals as goal

pub returns : goal.returns
returns c = sound
