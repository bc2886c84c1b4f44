pub mod CutLaws
pub mod FramingLemmas
pub mod MessagesLemmas
pub mod OpeningLemmas
pub mod UnframedLemmas
