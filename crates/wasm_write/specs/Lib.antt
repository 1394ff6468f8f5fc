pub mod Examples
pub mod Instructions
pub mod Modules
pub mod SectionEntries
pub mod Types
pub mod Values
pub mod Writing
