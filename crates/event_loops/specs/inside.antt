pub mod Going
pub mod Searching
pub mod Collecting
pub mod Entering
pub mod Tracing
pub mod Fingerprinting
