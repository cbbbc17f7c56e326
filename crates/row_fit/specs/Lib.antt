pub mod Fits
pub mod Sound
pub mod FrontParts
