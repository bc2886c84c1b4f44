pub mod EventIds
pub mod ListTexts
pub mod OwnKeys
