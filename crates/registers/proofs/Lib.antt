pub mod Rest
pub mod Starts
pub mod Kept
