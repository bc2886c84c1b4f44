pub mod Cuts
pub mod Demo
pub mod Endings
pub mod Headline
pub mod Words
