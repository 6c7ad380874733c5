pub mod Open
pub mod Numbered
pub mod States
pub mod Unchanged
pub mod Starts
pub mod One
