pub mod Terms
pub mod Making
pub mod Graphs
pub mod code
pub mod Operations
