pub mod Leb
pub mod LebReading
pub mod Outside
pub mod Memory
pub mod System
