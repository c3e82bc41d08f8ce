pub mod Words
pub mod Work
pub mod Judgement
pub mod Steps
pub mod inside
pub mod Flaws
pub mod Lawful
pub mod Crash
