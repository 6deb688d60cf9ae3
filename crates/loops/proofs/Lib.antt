pub mod RanksRise
pub mod ShapesRecur
pub mod SettledShapesMatch
pub mod RowsTellStarts
pub mod RowsSettle
pub mod RowsAgain
pub mod StartsMakeTables
