pub mod Languages
pub mod Grammar
pub mod Parts
pub mod Complete
pub mod OneText
pub mod Faults
