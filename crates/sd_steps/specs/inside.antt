pub mod Filings
pub mod Measuring
pub mod Puts
pub mod Stops
