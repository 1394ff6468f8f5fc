pub mod ReachedTerms
pub mod TurnLaws
pub mod FewAnswers
pub mod AnswerLemmas
pub mod OtherLemmas
pub mod SettleLaws
pub mod StandLaws
pub mod GoLaws
