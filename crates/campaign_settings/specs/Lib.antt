pub mod Keys
pub mod Values
pub mod Lists
pub mod Outside
pub mod Settings
pub mod Words
pub mod Own
pub mod Lines
