pub mod Firsts
pub mod Encoder
pub mod Encodes
pub mod Building
pub mod Indexed
pub mod KeptColumns
pub mod Widths
pub mod Any
