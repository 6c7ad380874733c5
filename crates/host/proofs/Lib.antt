pub mod Mappers
pub mod Shown
