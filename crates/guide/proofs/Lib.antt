pub mod EnlargedAreInGuide
pub mod LiveNetsAreEvaluated
pub mod BlockedNetsAreEvaluated
pub mod RisingListsGrow
pub mod MoreRoom
pub mod LoopTables
pub mod RatesExist
mod RoomierCoversBoth
pub mod BoundsBelow
pub mod ShownWithMoreRoom
mod ReachedCountsAreFound
mod OtherRoomGainsNothing
