pub mod Words
pub mod Work
pub mod Frames
pub mod File
pub mod Recovery
pub mod Judgement
pub mod Steps
pub mod Crash
