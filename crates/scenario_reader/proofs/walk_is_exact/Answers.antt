use Rattle.std.proofs.lemmas.Result.{IfOk-at_ok}
use Rattle.scenario_reader.specs.ScenarioSpelled.{IsScenarioFile}
use Rattle.scenario_reader.proofs.ScenarioFound as Found
use Rattle.scenario_reader.proofs.ScenarioAgain as Again
use Rattle.scenario_reader.proofs.walk_is_exact.Goals as goal

pub returns : goal.returns
returns c = λ e f. ((λ read. IfOk-at_ok (IsScenarioFile e) read (Found.file_of e)), Again.file_of e f)
