pub mod Chunks
pub mod inside
