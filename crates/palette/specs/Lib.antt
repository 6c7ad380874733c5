pub mod PanDocs
pub mod Palette
