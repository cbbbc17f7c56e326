pub mod CommandWords
pub mod Code
pub mod Ends
pub mod Facts
pub mod Map
pub mod Moving
pub mod Read
pub mod SlotsRun
