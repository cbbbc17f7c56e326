pub mod Listing
pub mod Info
pub mod Recode
pub mod Lines
pub mod Sweeping
pub mod Facts
