pub mod Outside
pub mod Files
pub mod Memory
pub mod Streams
pub mod RealAnswers
pub mod StandardStreams
