pub mod Live
pub mod Owing
pub mod Morsels
pub mod Planners
pub mod MorselRules
pub mod PlannerRules
