pub mod Counts
pub mod Ranges
pub mod Refused
pub mod Words
