pub mod Scans
pub mod Chunks
pub mod Sturdy
pub mod Kept
