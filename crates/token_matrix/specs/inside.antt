pub mod LaterRows
pub mod Batches
pub mod Lines
pub mod RoundRows
pub mod Tokens
