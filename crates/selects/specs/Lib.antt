pub mod PanDocs
