pub mod MadeGraphs
pub mod NodeTexts
pub mod GraphTrees
pub mod Writable
pub mod inside
