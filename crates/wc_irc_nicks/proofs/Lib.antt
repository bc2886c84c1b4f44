pub mod KeptLemmas
pub mod MemberLemmas
pub mod MergedLemmas
