pub mod Runs
pub mod AnyKinds
pub mod Known
pub mod EndedRuns
pub mod Found
pub mod LineReading
pub mod Laid
pub mod Numbers
pub mod Leading
pub mod GoingOn
pub mod PlayedHits
pub mod Places
pub mod PutHits
pub mod WithoutHits
pub mod PlayedRuns
pub mod WholeLists
pub mod Within
pub mod KnownLists
pub mod ReadHits
pub mod SomeComponent
pub mod GrownLemmas
mod CertainAnswers
mod LinePlays
mod LineRuns
mod Compared
mod LinesRead
mod Tests
mod LineWords
pub mod Disagreeing
