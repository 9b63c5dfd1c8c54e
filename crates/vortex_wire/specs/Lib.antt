pub mod Canonical
pub mod Grammar
pub mod Messages
pub mod Places
pub mod Tables
