pub mod Naming
pub mod MergedRates
