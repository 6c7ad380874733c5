pub mod Left
pub mod Puts
