pub mod Walks
pub mod Repetition
pub mod inside
pub mod ConnectRefusals
