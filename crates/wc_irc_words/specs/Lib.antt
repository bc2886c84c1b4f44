pub mod Everyday
pub mod Typed
pub mod TypedSeen
