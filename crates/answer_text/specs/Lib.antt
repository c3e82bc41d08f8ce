pub mod Answers
pub mod FirstFault
pub mod FaultText
pub mod Hits
pub mod Runs
pub mod Known
pub mod inside
