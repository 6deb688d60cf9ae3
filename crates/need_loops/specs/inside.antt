pub mod Needing
pub mod Growing
pub mod Knowing
pub mod Showing
