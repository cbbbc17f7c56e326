pub mod Steps
pub mod Window
pub mod Streams
pub mod Calls
pub mod Ends
pub mod Facts
pub mod RunParts
pub mod SweepText
