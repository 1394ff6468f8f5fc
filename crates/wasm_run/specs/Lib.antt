pub mod Bounded
pub mod code
