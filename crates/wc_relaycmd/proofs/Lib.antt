pub mod SplitLemmas
pub mod ListLemmas
pub mod LoginLemmas
pub mod EscapeLemmas
pub mod SecretLemmas
pub mod SaltLemmas
pub mod TagLemmas
pub mod AskLemmas
pub mod ReadLemmas
pub mod Utf8Lemmas
pub mod RequestTexts
mod PadLemmas
