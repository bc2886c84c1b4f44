pub mod KeyedLemmas
