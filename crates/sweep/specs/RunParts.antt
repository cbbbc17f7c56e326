pub mod Facts
pub mod Hexadecimal
pub mod Reads
pub mod StatusLine
pub mod Writing
