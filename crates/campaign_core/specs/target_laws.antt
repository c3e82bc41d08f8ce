pub mod Candidates
pub mod inside
