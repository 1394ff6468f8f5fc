pub mod SequenceLaws
pub mod WalkLaws
pub mod WordLaws
