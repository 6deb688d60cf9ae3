pub mod SharedChannels
pub mod BoundedFiles
pub mod StorageRates
pub mod Boundings
pub mod ScenarioGuides
pub mod ShownSpaces
pub mod inside
