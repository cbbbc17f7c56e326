pub mod FrontLaws
pub mod FitLaws
pub mod FrontConverse
pub mod TailLaws
pub mod OneSpelling
pub mod FrontGrows
pub mod SoundLaws
pub mod SameMap
