pub mod Host
pub mod Digest
