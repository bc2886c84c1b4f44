pub mod Cut
pub mod Framing
pub mod Messages
pub mod Opening
pub mod Unframed
