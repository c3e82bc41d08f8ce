pub mod KeptSets
pub mod Texts
