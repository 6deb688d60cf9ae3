pub mod Heads
pub mod Hashes
pub mod Sets
pub mod Waiting
