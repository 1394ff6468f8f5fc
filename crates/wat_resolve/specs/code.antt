pub mod Noting
pub mod Firsts
pub mod Spaces
