pub mod Tellings
pub mod Walks
pub mod inside
