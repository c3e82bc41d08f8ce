-- What the code keeps. No clause that a caller sees names any of it.
pub mod Candidates
pub mod CoreStates
pub mod Entries
pub mod Stages
pub mod Cursors
pub mod Searches
pub mod Inside
pub mod Told
pub mod Packed
pub mod Packing
