pub mod Ends
pub mod FlowLines
