pub mod Pairs
pub mod MapSteps
pub mod WordSteps
pub mod Failures
pub mod InPlaceSteps
pub mod PairOrder
pub mod Running
