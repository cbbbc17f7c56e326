pub mod LawsBelow
pub mod Branches
pub mod Rows
pub mod Images
pub mod Choices
pub mod Lengths
pub mod Facts
