pub mod Fine
pub mod Bytes
pub mod Entries
pub mod Fresh
pub mod Boundary
pub mod Told
