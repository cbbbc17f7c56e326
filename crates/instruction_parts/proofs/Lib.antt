pub mod Tests
mod FewPrefixes
pub mod Runs
pub mod Spans
pub mod Lists
pub mod RowFields
