pub mod Numbers
pub mod One
pub mod Refusal
