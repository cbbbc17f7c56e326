pub mod RowLines
pub mod Completing
pub mod AsmRun
pub mod FlowRun
pub mod SampleRun
