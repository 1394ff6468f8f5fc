pub mod States
pub mod Values
pub mod Configurations
pub mod Acts
pub mod Stores
pub mod Steps
pub mod code
