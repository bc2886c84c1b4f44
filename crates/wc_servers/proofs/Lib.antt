pub mod LeavingLemmas
pub mod OutLemmas
pub mod QuitLemmas
pub mod SeatLemmas
pub mod ToldLemmas
