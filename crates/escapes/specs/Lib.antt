pub mod EscapedNames
pub mod SpelledNames
