pub mod Held
pub mod Palettes
pub mod Steps
