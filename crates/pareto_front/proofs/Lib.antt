pub mod OffersStayOrdered
pub mod PointsTakePlaces
