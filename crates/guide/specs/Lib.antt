pub mod Guides
pub mod Evaluations
pub mod Covering
