pub mod Levels
pub mod Searches
pub mod Bests
pub mod Choosing
pub mod ByNode
pub mod Spreading
