-- What the code keeps. No clause that a caller sees names any of it.
pub mod Batches
pub mod Held
pub mod Marks
pub mod Seen
