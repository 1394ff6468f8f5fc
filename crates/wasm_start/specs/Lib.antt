pub mod Starts
pub mod code
