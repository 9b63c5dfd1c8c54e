pub mod Sorted
pub mod Members
pub mod Listed
pub mod RowMasks
pub mod Told
pub mod Valid
pub mod Laws
