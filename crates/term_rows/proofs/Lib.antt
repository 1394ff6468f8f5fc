mod SessionLemmas
mod QuestionLemmas
