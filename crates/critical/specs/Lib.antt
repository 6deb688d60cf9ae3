pub mod Cycles
pub mod Bounds
pub mod Stretches
pub mod Spaces
pub mod Unspaced
pub mod CriticalCycles
pub mod LaterCycles
pub mod inside
