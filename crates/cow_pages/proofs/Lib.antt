pub mod WrittenLemmas
pub mod ChunkLemmas
pub mod PaddedLemmas
