pub mod Junit
