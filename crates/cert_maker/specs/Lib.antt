pub mod Links
pub mod RateCertificates
pub mod StorageCertificates
pub mod ValidCertificates
pub mod ValidTradeOffs
pub mod ValidWorstRates
pub mod WorstCertificates
pub mod inside
