pub mod Heads
pub mod Compared
pub mod TakenAt
pub mod Filling
pub mod TextKinds
pub mod NamedRows
