pub mod Copied
pub mod Covered
pub mod Fetches
pub mod Targets
