pub mod ScenarioRules
pub mod SharedRows
pub mod FileRules
pub mod ScenarioFound
pub mod ScenarioAgain
pub mod FileNames
