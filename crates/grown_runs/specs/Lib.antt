pub mod GrownRuns
pub mod Grown
pub mod inside
pub mod ranges
pub mod known
