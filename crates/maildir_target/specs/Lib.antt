pub mod Words
pub mod Judgement
pub mod Steps
pub mod Lawful
pub mod Flaws
pub mod Crash
pub mod inside
