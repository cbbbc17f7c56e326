pub mod Items
pub mod Goals
pub mod Starts
pub mod Ready
pub mod Plan
pub mod Facts
pub mod MovedTargets
pub mod BranchForms
