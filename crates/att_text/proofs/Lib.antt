pub mod Bounds
pub mod Examples
pub mod Letters
pub mod Ascii
