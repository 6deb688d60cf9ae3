pub mod WayMarks
pub mod inside
