pub mod Accesses
pub mod Groups
pub mod Nests
pub mod Refusals
pub mod Stripped
pub mod Views
pub mod Wholes
