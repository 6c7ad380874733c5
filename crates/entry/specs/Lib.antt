pub mod Entry
pub mod Host
pub mod Entries
pub mod EntryContracts
pub mod One
pub mod Refused
pub mod LentLess
