pub mod NumbersLemmas
pub mod AccessLemmas
pub mod StoredLemmas
pub mod LoadLemmas
pub mod ClassLemmas
