pub mod Finders
pub mod Hides
pub mod Kept
pub mod Masks
pub mod NamesLeft
pub mod Parts
pub mod Patterns
