-- What the code keeps. No clause that a caller sees names any of it.
pub mod Left
pub mod Ready
pub mod Seen
pub mod Devices
