pub mod Kept
pub mod KeptSeen
pub mod Merged
pub mod MergedSeen
pub mod OverlaySeen
pub mod Seats
