pub mod Running
pub mod Gathered
pub mod Lines
pub mod Open
pub mod ResultLemmas
pub mod PlansFound
pub mod WithDepthLemmas
mod RecordedLemmas
