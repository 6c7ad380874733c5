pub mod Storable
pub mod Typed
pub mod PutLaws
pub mod Whole
