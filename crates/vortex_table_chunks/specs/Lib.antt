pub mod ChunkOf
pub mod Rows
pub mod Kept
