pub mod Gathered
pub mod Places
