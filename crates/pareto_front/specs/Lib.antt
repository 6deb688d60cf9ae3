pub mod Offers
pub mod Points
