pub mod WidthLemmas
pub mod SameLemmas
mod OperandLemmas
mod OperationRules
pub mod RuleLemmas
pub mod SymbolLemmas
pub mod KindLemmas
pub mod ListLemmas
pub mod GraphLemmas
mod KeyLemmas
mod IndexLemmas
mod MergeLemmas
mod FitLemmas
mod OperationFits
pub mod MakeLemmas
mod ValueLemmas
mod WalkLemmas
