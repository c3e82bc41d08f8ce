pub mod Parents
pub mod EachShown
