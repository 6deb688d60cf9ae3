pub mod Answers
pub mod inside
pub mod ChosenCycles
