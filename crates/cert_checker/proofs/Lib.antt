pub mod SchedulesShowRates
pub mod LinksFixSteps
pub mod PathsJoinActors
pub mod RateFaults
pub mod RateClaims
pub mod BuffersHeld
pub mod MarksShowReached
pub mod WalkTimes
pub mod PotentialListsDecide
pub mod ScenarioFaults
pub mod WorstClaims
pub mod ShownLists
pub mod FileNets
pub mod TradeOffs
pub mod AnswersJudgeLines
pub mod LinesFitTexts
pub mod TradeOffFaults
pub mod StorageFirsts
pub mod TradeOffFirsts
pub mod EntryLists
pub mod KnownLists
pub mod SpaceSets
pub mod ChildMarks
pub mod BestRates
pub mod LinkMaps
pub mod EdgeWeights
mod ToldLines
mod PotentialsFitEdges
