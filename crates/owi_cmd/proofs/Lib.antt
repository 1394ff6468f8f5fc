pub mod AnswerLemmas
pub mod ReportLemmas
pub mod WordsLemmas
pub mod SourceLemmas
pub mod StrippedLemmas
