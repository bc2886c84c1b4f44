pub mod Lost
pub mod Outs
pub mod Seats
pub mod Texts
