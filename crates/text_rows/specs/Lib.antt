pub mod AtRow
pub mod BracketText
pub mod RowLines
