pub mod Safe
pub mod Never
pub mod Flawed
pub mod Playing
pub mod Writing
pub mod Readying
pub mod Numbers
mod Sturdy
mod Kept
mod Cutting
mod CutAlike
