pub mod ShownCycles
pub mod Wirings
pub mod Starts
pub mod Rated
pub mod Evaluating
pub mod inside
