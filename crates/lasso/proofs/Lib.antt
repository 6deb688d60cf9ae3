pub mod AlikeShapesAreEqual
pub mod OneEnding
pub mod EventsGoOn
pub mod TwoShareValue
pub mod DigitsTellLists
pub mod LagsStayBounded
pub mod ShapeNumbers
pub mod LoopsClose
