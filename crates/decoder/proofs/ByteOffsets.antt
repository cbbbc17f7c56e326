pub mod Short
pub mod TailRead
pub mod PartBytes
pub mod FrontRead
