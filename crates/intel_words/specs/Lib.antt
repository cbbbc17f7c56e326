pub mod Words
pub mod Printable
pub mod Scanning
pub mod ReadNumbers
pub mod ReadRegisters
pub mod ReadAddresses
pub mod ReadWords
pub mod Pieces
