pub mod FlagLemmas
pub mod HistoryLaws
pub mod KeepLast
pub mod Newest
pub mod PackedLaws
pub mod RingLemmas
