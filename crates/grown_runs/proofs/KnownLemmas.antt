pub mod Sites
pub mod Listed
pub mod Walked
pub mod Steps
pub mod Kept
pub mod Ends
pub mod Seen
pub mod Found
