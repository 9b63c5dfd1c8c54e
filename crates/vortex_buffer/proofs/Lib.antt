pub mod Bits
pub mod Places
pub mod Growing
pub mod Counts
pub mod Unset
pub mod WordLaws
