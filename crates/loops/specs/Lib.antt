pub mod LoopAnswers
pub mod StartRows
pub mod Settling
