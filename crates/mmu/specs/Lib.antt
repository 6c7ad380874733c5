pub mod PanDocs
pub mod Access
pub mod Write
