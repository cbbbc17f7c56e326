pub mod Order
pub mod Keeping
pub mod Running
pub mod Facts
pub mod LawsBelow
