pub mod Capped
pub mod Lists
