pub mod Ranges
pub mod Region
pub mod Start
pub mod World
