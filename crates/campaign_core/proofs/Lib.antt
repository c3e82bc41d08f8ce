pub mod Minimal
pub mod Firsts
mod ToldRuns
pub mod PlanNames
pub mod Gathered
pub mod PlanRanges
pub mod Shown
pub mod FirstLevel
pub mod Grown
pub mod Causes
mod EachVerdict
pub mod Begun
pub mod Findings
pub mod Promised
pub mod Unlisted
pub mod Unreached
pub mod Surveyed
pub mod PromisesLemmas
pub mod TargetLawsLemmas
