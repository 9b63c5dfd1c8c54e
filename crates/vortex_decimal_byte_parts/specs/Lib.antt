pub mod Number
pub mod Columns
pub mod Checked
pub mod Held
pub mod Split
pub mod Asked
pub mod Serialized
