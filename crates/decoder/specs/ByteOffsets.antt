pub mod PartBytes
pub mod Offsets
pub mod Tails
