pub mod Asked
pub mod Predicates
pub mod Outcomes
pub mod Forms
