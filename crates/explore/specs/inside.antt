pub mod Errors
pub mod Hints
pub mod Members
pub mod Searches
