pub mod Appending
pub mod Held
pub mod HexDigits
pub mod Putting
pub mod Saying
pub mod Whole
