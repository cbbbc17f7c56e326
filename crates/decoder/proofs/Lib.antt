mod Placed
mod Fronts
mod ReadingLaws
mod Scanning
mod Finding
mod BareFits
mod InCell
mod Moving
mod NextItem
mod FormedRegisters
pub mod Formed
pub mod OneReading
pub mod ByteOffsets
