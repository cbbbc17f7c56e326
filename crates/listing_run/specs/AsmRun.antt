pub mod Assembling
pub mod Bytes
pub mod Facts
pub mod Lines
