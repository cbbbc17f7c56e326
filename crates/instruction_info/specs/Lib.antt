pub mod Effects
pub mod Settings
pub mod Memory
pub mod Registers
pub mod Laws
