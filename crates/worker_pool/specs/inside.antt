-- What the code keeps. No clause that a caller sees names any of it.
pub mod Apart
pub mod Parts
pub mod Queues
pub mod Ring
pub mod ActiveWorkers
pub mod Buffers
