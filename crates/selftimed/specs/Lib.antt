pub mod Fingerprints
pub mod Moves
pub mod inside
pub mod EngineShapes
