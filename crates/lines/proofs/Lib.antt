pub mod Contents
pub mod Reading
pub mod Steps
pub mod Decoding
