mod Effects
mod LawTests
pub mod FewUses
pub mod NoFeatures
pub mod Pushed
