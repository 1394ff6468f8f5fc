pub mod Words
pub mod Accesses
