pub mod Repeated
pub mod Tested
pub mod Turned
