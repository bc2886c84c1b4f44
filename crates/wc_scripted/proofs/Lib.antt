pub mod CursorLemmas
pub mod FaultLemmas
pub mod PlayLemmas
pub mod RowLemmas
pub mod SeesLemmas
