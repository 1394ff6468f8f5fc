pub mod Values
pub mod Configurations
pub mod Laws
pub mod Examples
