pub mod Lists
pub mod Ratios
pub mod Reaching
pub mod Search
