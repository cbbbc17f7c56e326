pub mod ByteLines
pub mod Completing
pub mod Cutting
pub mod Going
pub mod NoByteText
pub mod Unique
