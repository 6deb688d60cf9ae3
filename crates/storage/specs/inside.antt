pub mod Easing
pub mod SpaceLists
