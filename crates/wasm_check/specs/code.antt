-- What the code alone needs: no public contract speaks of it.
pub mod Carried
pub mod Checker
pub mod Counts
pub mod Kept
pub mod Progress
pub mod Runs
pub mod Sections
pub mod Walk
