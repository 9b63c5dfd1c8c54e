pub mod FrontOrder
pub mod Pieces
