mod ListLemmas
mod TermLemmas
mod ValueLemmas
mod WordLemmas
mod ZipLemmas
pub mod ReadLemmas
pub mod ToldLemmas
