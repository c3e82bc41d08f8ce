pub mod Forms
pub mod Runs
