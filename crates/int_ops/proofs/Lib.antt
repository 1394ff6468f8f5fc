pub mod TableLemmas
pub mod IntegerLemmas
pub mod BytesLemmas
pub mod LawLemmas
pub mod WidthLemmas
pub mod TrapLemmas
