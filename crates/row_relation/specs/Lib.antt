pub mod Spells
pub mod EveryRule
pub mod RowReading
pub mod PlainBytes
pub mod IsPlain
pub mod Given
pub mod GivenSpelling
pub mod PlainLaws
