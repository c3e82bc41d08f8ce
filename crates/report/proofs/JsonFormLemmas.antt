pub mod Lists
pub mod Depths
