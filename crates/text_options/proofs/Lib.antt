pub mod Kept
pub mod Short
pub mod Cover
pub mod Placed
pub mod Unasked
pub mod Plain
pub mod Quiet
