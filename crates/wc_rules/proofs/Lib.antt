pub mod FlipLemmas
