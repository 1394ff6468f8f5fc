mod Alignment
pub mod Bodies
mod Carrying
pub mod ConstantLemmas
mod ContextLemmas
mod Deciding
pub mod EntryLemmas
pub mod Examples
mod FaultLemmas
mod Faults
mod FaultsExist
mod FirstFaults
mod Labels
mod LocalLemmas
mod ModuleLemmas
mod NameLemmas
mod OpenLemmas
pub mod Rules
mod RunLemmas
mod Signatures
pub mod Stacks
mod TreeLemmas
mod Verdicts
mod Walking
