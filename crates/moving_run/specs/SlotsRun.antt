pub mod Slotted
pub mod Slotting
pub mod Steps
pub mod Facts
