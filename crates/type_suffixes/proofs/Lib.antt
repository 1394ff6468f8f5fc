pub mod Trees
pub mod Beginnings
pub mod Spans
pub mod NamedLists
