pub mod Candidates
pub mod Names
pub mod NamesAt
