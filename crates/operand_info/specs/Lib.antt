pub mod Names
pub mod Columns
pub mod ByCode
pub mod Operands
pub mod Lines
pub mod Laws
