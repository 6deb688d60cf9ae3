pub mod FittingEntriesHold
