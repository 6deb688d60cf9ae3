pub mod Goings
pub mod MadeCertificates
pub mod PointTasks
pub mod Wants
