pub mod HeadLemmas
pub mod SideLemmas
