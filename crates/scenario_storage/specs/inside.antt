pub mod Errors
pub mod Points
pub mod Blocked
pub mod Levels
pub mod Ratings
pub mod Shown
pub mod Searches
