pub mod Text
pub mod Flag
pub mod Contents
pub mod Reader
pub mod Answer
pub mod Tally
