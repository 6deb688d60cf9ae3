pub mod FeedsGoOn
pub mod DueRowsAreSelfTimed
pub mod FirstDue
pub mod StartsBoundEvents
pub mod RowLoops
pub mod RowsHoldAllStarts
pub mod FiringsStartApart
