pub mod Outcome
pub mod Calls
pub mod Rows
pub mod Texts
pub mod Taken
pub mod AsmRun
pub mod FlowRun
pub mod SampleRun
