pub mod Lacks
pub mod Starts
