pub mod Ascending
pub mod Counted
pub mod Words
pub mod Parts
pub mod MaskLaws
