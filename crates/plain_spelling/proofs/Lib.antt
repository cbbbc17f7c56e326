mod Examples
pub mod PlainFrontLaws
pub mod Asked
pub mod ImmediateBytes
pub mod FrontRange
pub mod ImmediateRoom
pub mod Failures
pub mod Suiting
pub mod SizedRegisters
pub mod BasedAddresses
