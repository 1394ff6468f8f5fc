pub mod InnerSequences
pub mod LaidSequences
pub mod NamedOnce
pub mod NumberingLemmas
