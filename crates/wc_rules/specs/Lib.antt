pub mod Displayed
pub mod Plans
pub mod RulesView
