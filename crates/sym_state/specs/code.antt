pub mod Cells
pub mod Begins
