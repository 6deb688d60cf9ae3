mod TwoNumbersAgree
pub mod ChainsSplitAndJoin
mod ClosedWaysAreCritical
mod CriticalCycles
pub mod LaterCycles
mod FiringsCanBeLowered
mod PlacesTellFirings
pub mod PassesRepeat
pub mod LoopsAreShort
mod CountsAreBounded
pub mod ListedSpacesRise
mod StretchesGiveSteps
mod StretchSpaces
pub mod TightCycles
pub mod TightNeeds
mod FiringsStandApart
mod WaysTurnToCycles
mod UpperSides
mod MarkedFiringsRecur
mod TrailsLeadBack
pub mod CycleTraces
mod CyclesAvoidSpaces
mod ReadingsAreOne
mod RanksRuleOutCycles
mod WaysExtend
mod SearchGoesOn
mod SearchTurns
