pub mod FailAtLemmas
