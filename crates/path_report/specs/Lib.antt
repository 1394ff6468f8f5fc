pub mod Endings
pub mod Listeners
pub mod Report
pub mod Reading
pub mod code
pub mod Replays
