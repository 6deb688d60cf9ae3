pub mod Periods
pub mod ScheduleLines
pub mod LoopSchedules
pub mod inside
