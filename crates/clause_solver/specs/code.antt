pub mod Seen
pub mod Places
pub mod Watching
pub mod Guarding
pub mod Renewing
pub mod Analysis
pub mod Literals
pub mod Turned
