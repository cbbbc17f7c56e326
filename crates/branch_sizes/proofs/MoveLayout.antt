pub mod Slotting
pub mod Standing
pub mod Tabled
pub mod Laid
pub mod Blocks
