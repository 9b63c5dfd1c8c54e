pub mod Casts
pub mod Filled
