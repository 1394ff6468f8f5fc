pub mod StartLemmas
pub mod SegmentLemmas
pub mod EvaluationLemmas
