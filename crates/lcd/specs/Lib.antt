pub mod PanDocs
pub mod Lcd
