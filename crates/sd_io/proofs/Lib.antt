mod PiecesJoinToTexts
mod FileNames
pub mod WholeFiles
