pub mod EverydayLemmas
pub mod TypedLemmas
