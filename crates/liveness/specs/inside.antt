pub mod Series
pub mod UntimedRuns
pub mod Looks
