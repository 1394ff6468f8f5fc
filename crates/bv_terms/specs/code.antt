pub mod Index
pub mod KnownValues
