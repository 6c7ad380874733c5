pub mod Answers
pub mod Refusal
