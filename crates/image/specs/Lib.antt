pub mod Layout
pub mod Load
pub mod Laws
pub mod Patches
pub mod Known
