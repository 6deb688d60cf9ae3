pub mod WaitsStopFirings
pub mod LessRoomKeepsWaits
pub mod FollowingComesBack
pub mod RoundsAreWaits
