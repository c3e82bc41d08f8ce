pub mod Logged
pub mod Agreeing
pub mod Safe
pub mod Voted
pub mod Never
pub mod Flawed
pub mod Counting
pub mod Sets
pub mod Playing
pub mod Batches
pub mod Rounds
pub mod Rows
pub mod First
pub mod Fronts
pub mod Noting
pub mod Cutting
pub mod Kept
mod CutAlike
