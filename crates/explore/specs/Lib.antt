pub mod Reachable
pub mod Explorations
pub mod Ceilings
pub mod inside
