pub mod Node
pub mod Grammar
pub mod Fault
pub mod Values
pub mod inside
