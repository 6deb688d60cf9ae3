pub mod BackLinks
pub mod RatesMoveTokens
