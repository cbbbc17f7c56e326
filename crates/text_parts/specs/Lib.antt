pub mod Numbers
pub mod DigitPairs
pub mod DigitValues
pub mod Registers
pub mod Addresses
pub mod PrefixWords
pub mod Layout
pub mod Frequent
