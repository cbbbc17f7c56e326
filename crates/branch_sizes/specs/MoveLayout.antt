pub mod Laid
pub mod Tables
pub mod Slots
pub mod Facts
