-- What the code keeps. No clause that a caller sees names any of it.
pub mod OnPlans
pub mod Looks
