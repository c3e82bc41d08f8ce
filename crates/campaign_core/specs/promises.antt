pub mod Behaviours
pub mod Told
pub mod Promises
pub mod Further
pub mod WrongReports
