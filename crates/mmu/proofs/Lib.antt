pub mod Places
pub mod Rows
pub mod Laws
pub mod Saves
