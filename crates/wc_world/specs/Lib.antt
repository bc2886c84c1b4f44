pub mod Flips
pub mod Handles
pub mod Kept
pub mod Limits
pub mod Near
pub mod Nicks
pub mod Texts
pub mod Told
