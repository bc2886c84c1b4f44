pub mod Head
pub mod Link
pub mod Parts
