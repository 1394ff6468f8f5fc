pub mod ReadingLemmas
pub mod VerdictLemmas
pub mod VerdictLaws
