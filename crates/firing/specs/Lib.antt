pub mod Sdf
pub mod Groups
pub mod Wiring
pub mod Ports
pub mod Csdf
pub mod inside
