pub mod Apart
pub mod Handles
pub mod KeptLaws
pub mod Levels
pub mod MeansLaws
pub mod Put
pub mod RoomLaw
pub mod RowSteps
