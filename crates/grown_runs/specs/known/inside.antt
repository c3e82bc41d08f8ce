-- What the code keeps. No clause that a caller sees names any of it.
pub mod Grown
pub mod WalkSteps
