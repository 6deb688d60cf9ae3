pub mod NeighboursConnect
pub mod EntriesFormDistribution
