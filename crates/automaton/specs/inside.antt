pub mod Adding
pub mod Leading
