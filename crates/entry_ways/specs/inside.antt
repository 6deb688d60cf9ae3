pub mod Firsts
pub mod Columns
pub mod Traces
