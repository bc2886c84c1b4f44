pub mod Kinds
pub mod Hex
pub mod Spelling
pub mod Forms
pub mod Left
pub mod Reading
pub mod Within
pub mod Spells
