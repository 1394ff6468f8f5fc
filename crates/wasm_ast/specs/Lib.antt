pub mod Numbering
pub mod Opcodes
pub mod Ranges
pub mod Sections
pub mod Shape
pub mod Straight
