pub mod Rows
pub mod Digits
pub mod Encoded
pub mod Placed
pub mod Jumped
