pub mod ByAnswer
pub mod Explained
pub mod Tales
pub mod Told
pub mod inside
