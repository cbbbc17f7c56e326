pub mod Parts
pub mod ModRmParts
pub mod Bridge
pub mod Unique
