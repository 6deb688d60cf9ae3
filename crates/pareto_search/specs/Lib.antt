pub mod TradeOffs
pub mod Entrances
pub mod inside
