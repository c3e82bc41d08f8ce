pub mod Workers
pub mod Tickets
pub mod inside
