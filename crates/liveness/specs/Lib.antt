pub mod inside
pub mod RoundAnswers
