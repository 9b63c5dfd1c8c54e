pub mod Numbered
pub mod Forms
