pub mod Answers
pub mod InOrder
pub mod Groups
pub mod Compare
