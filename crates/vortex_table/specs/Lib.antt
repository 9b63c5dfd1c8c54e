pub mod ChunkOf
pub mod State
pub mod Built
pub mod Kept
pub mod Given
pub mod Fetching
pub mod Scanning
