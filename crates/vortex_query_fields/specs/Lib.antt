pub mod Numbers
pub mod Decimals
pub mod Hex
pub mod Types
pub mod Columns
pub mod Values
pub mod Written
pub mod Laws
