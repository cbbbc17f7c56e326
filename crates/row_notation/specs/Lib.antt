pub mod Shape
pub mod Notation
pub mod Texts
pub mod Reading
