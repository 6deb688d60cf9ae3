pub mod ScenarioSections
pub mod ScenarioNames
pub mod ScenarioFiles
pub mod ScenarioSpelled
