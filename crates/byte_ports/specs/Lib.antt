pub mod Ports
pub mod Memory
pub mod FailAt
pub mod Slow
pub mod Failing
