pub mod Ranks
pub mod Region
pub mod Blocks
pub mod Live
pub mod Runs
