pub mod Kept
pub mod Slices
pub mod Taken
pub mod KeptWords
pub mod FirstSet
pub mod PackedBits
pub mod SlicedBits
pub mod KeptRuns
