pub mod PhaseSums
pub mod Cuts
pub mod Counting
