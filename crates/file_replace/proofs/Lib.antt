pub mod Safe
pub mod Counted
pub mod Playing
pub mod Never
pub mod Readying
pub mod Flawed
mod Kept
mod Cutting
mod Sturdy
mod CutAlike
