pub mod Kinds
pub mod Grown
pub mod Seen
pub mod Questions
pub mod Explained
pub mod inside
