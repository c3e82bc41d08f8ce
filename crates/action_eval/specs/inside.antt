-- What the code keeps. No clause that a caller sees names any of it.
pub mod Replay
pub mod Laid
pub mod Layout
pub mod Session
pub mod Quiet
pub mod Arguments
