pub mod InPlace
pub mod Tails
pub mod Tells
pub mod Rows
pub mod WrittenTail
