pub mod About
pub mod Document
pub mod Runs
pub mod Values
pub mod inside
