pub mod Flowing
pub mod Lines
