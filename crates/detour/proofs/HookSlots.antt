pub mod Spaced
pub mod Lists
pub mod Patches
pub mod Layers
pub mod Undone
pub mod Kept
