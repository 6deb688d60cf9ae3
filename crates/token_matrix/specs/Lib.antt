pub mod Stamps
pub mod Ways
pub mod Words
pub mod Matrices
pub mod EntryWays
pub mod MatrixRefusals
pub mod inside
