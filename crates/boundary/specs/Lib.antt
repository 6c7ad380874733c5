pub mod Types
pub mod Held
pub mod Boundary
pub mod Told
