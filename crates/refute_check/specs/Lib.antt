pub mod Clauses
pub mod Resolution
pub mod Logs
pub mod Machine
pub mod Orders
pub mod Rising
pub mod Latest
pub mod code
