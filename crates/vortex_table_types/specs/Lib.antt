pub mod Table
pub mod Chosen
pub mod Answers
pub mod Laws
pub mod Turn
pub mod Described
