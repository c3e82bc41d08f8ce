pub mod Counts
pub mod Clean
pub mod Lines
pub mod Whole
pub mod SameRuns
pub mod Most
pub mod Caused
pub mod Open
