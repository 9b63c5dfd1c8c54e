pub mod InOrder
pub mod Nulls
pub mod Extremes
pub mod Asked
