pub mod FoundLaws
pub mod InOrderLaws
pub mod OrderLaws
pub mod TextLaws
pub mod WordLaws
