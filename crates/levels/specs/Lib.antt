pub mod Visits
pub mod WaitingOrder
pub mod Frontiers
pub mod Entrances
pub mod inside
