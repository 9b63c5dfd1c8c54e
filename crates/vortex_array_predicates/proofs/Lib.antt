pub mod Suffixes
pub mod Forms
