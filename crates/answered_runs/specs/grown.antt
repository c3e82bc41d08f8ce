pub mod Further
pub mod Asked
pub mod Lists
pub mod Reached
pub mod Causes
