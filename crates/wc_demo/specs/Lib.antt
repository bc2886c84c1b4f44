pub mod Client
pub mod Counts
pub mod Lines
pub mod MirrorCounts
pub mod Script
pub mod Start
