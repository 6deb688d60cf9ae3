pub mod ScenarioPoints
pub mod Entrances
pub mod inside
