-- What the code alone needs: no public contract speaks of it.
pub mod Links
pub mod Spans
