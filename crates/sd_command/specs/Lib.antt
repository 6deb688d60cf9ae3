pub mod commands
pub mod Entrances
pub mod inside
pub mod PlainCertificates
pub mod Requests
pub mod Runs
