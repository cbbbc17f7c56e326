pub mod Targets
pub mod Independent
pub mod Facts
