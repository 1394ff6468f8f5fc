mod EntryLemmas
mod HostLemmas
pub mod ImageLaws
mod SizeLemmas
mod TypeLemmas
