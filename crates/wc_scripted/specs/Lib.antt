pub mod Counted
pub mod Cursors
pub mod Plays
pub mod Rises
pub mod Rows
pub mod Scripts
pub mod Sees
pub mod Views
