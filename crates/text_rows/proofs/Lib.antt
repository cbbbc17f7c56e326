pub mod Long
pub mod Names
pub mod AtRow
pub mod RowLines
pub mod TextAscii
