pub mod Formats
pub mod Encodings
pub mod Measured
pub mod Moved
