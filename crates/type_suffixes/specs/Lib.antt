pub mod Words
pub mod Lists
pub mod Seen
pub mod code
