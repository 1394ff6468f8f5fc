pub mod Moves
pub mod Divisions
pub mod SelectOperands
pub mod RangeProgress
pub mod InstructionProgress
pub mod Simulation
pub mod Choices
