pub mod Exits
pub mod Machine
pub mod AttributeNames
pub mod Seen
pub mod Utf8
pub mod Runs
pub mod AttributeLists
