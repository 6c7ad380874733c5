pub mod PanDocs
pub mod Copies
