pub mod BaseWord
pub mod Candidates
pub mod Completed
pub mod NickNames
pub mod Order
