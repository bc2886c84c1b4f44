pub mod FilterLemmas
pub mod HalfLemmas
pub mod TabLemmas
