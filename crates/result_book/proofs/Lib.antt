pub mod SlotLemmas
pub mod RangeLemmas
pub mod FailureLemmas
pub mod EachCodeLemmas
pub mod PlaceLemmas
pub mod Reached
