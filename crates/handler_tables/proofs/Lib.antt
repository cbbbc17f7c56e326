pub mod FieldLemmas
pub mod Tree
pub mod Computed
pub mod TreeLemmas
pub mod RootLemmas
pub mod WithoutByte
