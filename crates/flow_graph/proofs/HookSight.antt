pub mod OneReading
pub mod Places
pub mod Ending
pub mod Entering
pub mod Suspecting
pub mod Seeing
pub mod Closing
pub mod Unique
