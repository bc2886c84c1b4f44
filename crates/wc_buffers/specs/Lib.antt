pub mod Calls
pub mod Entries
pub mod Groups
pub mod Kept
pub mod Table
pub mod Vars
