pub mod LiveEnginesGoOn
pub mod StartsAddUp
pub mod TracesFollowEvents
pub mod FingerprintsTellShapes
pub mod KeptShapesFindPairs
pub mod VisitsCountEvents
pub mod FirstRepeatFound
pub mod EntryBeginsLoop
