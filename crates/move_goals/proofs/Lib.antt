pub mod First
pub mod Blocks
pub mod Began
pub mod Aims
pub mod Planned
pub mod Pushed
pub mod MovedTargets
pub mod BranchForms
