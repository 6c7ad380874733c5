pub mod Named
pub mod One
pub mod Passed
