pub mod PanDocs
pub mod Flags
