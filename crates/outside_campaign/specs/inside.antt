-- What the code keeps. No clause that a caller sees names any of it.
pub mod Census
pub mod Found
pub mod Results
pub mod Tests
pub mod Told
pub mod ToldPlans
