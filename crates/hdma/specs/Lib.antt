pub mod PanDocs
pub mod Hdma
