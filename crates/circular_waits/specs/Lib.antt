pub mod inside
pub mod CircularWaits
