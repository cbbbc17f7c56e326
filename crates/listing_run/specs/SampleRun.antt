pub mod Generator
pub mod Made
pub mod Sample
pub mod Facts
