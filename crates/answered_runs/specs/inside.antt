-- What the code keeps. No clause that a caller sees names any of it.
pub mod LineSteps
pub mod Played
pub mod Replies
pub mod Segments
pub mod Steps
pub mod Trees
