pub mod Nodes
pub mod Marks
pub mod ShownTerms
pub mod Tree
pub mod Covers
pub mod Order
pub mod Refutations
pub mod code
