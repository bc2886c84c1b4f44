pub mod RowLemmas
pub mod SourceLemmas
