pub mod Calls
pub mod Fresh
