pub mod Entries
pub mod Functions
pub mod Hosts
pub mod Kept
pub mod Ready
pub mod Sizes
