pub mod Parts
pub mod Digests
