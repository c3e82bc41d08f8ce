pub mod Ranges
pub mod Ordered
pub mod inside
