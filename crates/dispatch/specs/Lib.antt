pub mod Step
pub mod Kinds
pub mod Lent
pub mod Unchanged
