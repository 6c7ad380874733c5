pub mod PanDocs
pub mod Joypad
