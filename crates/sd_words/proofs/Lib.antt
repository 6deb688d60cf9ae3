mod BufferParts
mod OrderParts
pub mod TurnsGoOrEnd
pub mod PlacesHoldValues
pub mod SeenNamesMatch
pub mod NamesStayApart
pub mod ReadingGivesSettings
pub mod AnswersFollowRules
pub mod ReadNumbersFit
pub mod AskedNumbersFit
pub mod ClapFindsValues
pub mod CutWords
pub mod TestChains
pub mod NamedOptions
