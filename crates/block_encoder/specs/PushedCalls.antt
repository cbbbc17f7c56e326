pub mod Rows
pub mod Pushes
pub mod Jumps
pub mod Items
pub mod Slots
pub mod Facts
pub mod LawsBelow
