-- How chunks are kept. No clause that a caller sees names any of it.
pub mod Flat
