pub mod Meaning
pub mod MemorySize
pub mod Given
