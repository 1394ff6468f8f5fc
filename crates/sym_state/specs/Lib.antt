pub mod Nodes
pub mod NextNodes
pub mod States
pub mod Fields
pub mod Examples
pub mod code
