pub mod ColumnOf
pub mod Plain
pub mod Batch
pub mod Head
pub mod Single
pub mod Index
