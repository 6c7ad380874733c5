pub mod PanDocs
pub mod AtOnce
pub mod Timer
pub mod Overflow
pub mod Promises
