pub mod Encoding
pub mod Facts
pub mod Frequent
