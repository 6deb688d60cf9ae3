pub mod NodeOrder
pub mod Leaving
pub mod Ways
pub mod Rooms
pub mod Surveys
pub mod Splits
pub mod Taken
pub mod Keeping
