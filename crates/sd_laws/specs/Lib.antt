pub mod Endings
pub mod AcceptedCertificates
pub mod FastestPoints
pub mod KeptOrders
pub mod PutCertificates
pub mod PutExpansions
