pub mod Report
pub mod Words
pub mod Answer
pub mod Faults
pub mod Sources
pub mod Rows
pub mod RunText
