pub mod TokensFeedSeries
pub mod WholeRuns
pub mod LacksAreNamed
pub mod LooksRunOut
pub mod CountsAreReached
