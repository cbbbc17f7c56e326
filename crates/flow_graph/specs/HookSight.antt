pub mod Sight
pub mod Entries
pub mod Suspects
pub mod Views
pub mod Keeping
