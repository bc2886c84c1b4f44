pub mod Events
pub mod Keys
