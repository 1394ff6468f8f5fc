pub mod Cells
pub mod code
