pub mod LawsBelow
pub mod StandIn
pub mod Routine
pub mod Built
pub mod Prepared
pub mod Filling
pub mod Finished
pub mod Near
