pub mod TimedGraphs
pub mod CriticalCycles
pub mod SoundGraphs
pub mod WorstRates
pub mod inside
