pub mod ClientLemmas
pub mod CountLemmas
pub mod LineLemmas
pub mod MirrorLemmas
pub mod PlayedLemmas
pub mod PutLemmas
pub mod ScriptLemmas
