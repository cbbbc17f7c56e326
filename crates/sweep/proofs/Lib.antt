pub mod Longer
pub mod Windows
pub mod Handling
pub mod Streaming
pub mod Completing
pub mod RunParts
pub mod SweepText
