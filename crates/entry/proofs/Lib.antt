pub mod Entries
pub mod Laws
pub mod Held
pub mod One
pub mod Refused
pub mod LentLess
