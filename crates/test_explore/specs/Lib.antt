pub mod Neighbours
pub mod Fitting
