pub mod Passes
pub mod FiniteTests
