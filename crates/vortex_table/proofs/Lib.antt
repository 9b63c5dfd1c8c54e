pub mod Filtered
pub mod ReadBack
pub mod SplitSteps
pub mod OneColumn
pub mod OwnCell
pub mod Oldest
pub mod OnePartition
