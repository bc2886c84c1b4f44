pub mod Counted
pub mod HotRows
pub mod Inside
pub mod Kept
pub mod Means
pub mod Pairs
pub mod Rows
