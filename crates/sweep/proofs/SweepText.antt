pub mod Digits
pub mod Lengths
pub mod OneSweep
pub mod Covering
