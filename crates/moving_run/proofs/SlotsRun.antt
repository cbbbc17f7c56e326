pub mod Going
pub mod Crowded
pub mod Kept
pub mod Unique
pub mod Completing
