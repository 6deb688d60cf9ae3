pub mod StepsFitLattice
pub mod MoreTold
pub mod PlaceFound
pub mod WalksStayBetween
pub mod StepsLessenLack
pub mod MostLacking
pub mod WalkEnds
