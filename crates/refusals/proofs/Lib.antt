pub mod Answers
pub mod Core
pub mod Window
