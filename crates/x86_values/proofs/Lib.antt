pub mod Compared
pub mod Wrapped
