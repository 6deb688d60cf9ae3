pub mod JobRuns
pub mod Parts
