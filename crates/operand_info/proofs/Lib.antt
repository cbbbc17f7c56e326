pub mod Lines
pub mod Uses
pub mod LawTests
