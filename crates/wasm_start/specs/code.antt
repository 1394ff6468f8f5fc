pub mod Evaluations
pub mod Starts
