pub mod Passes
pub mod One
