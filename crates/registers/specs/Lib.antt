pub mod State
pub mod PanDocs
pub mod Register
pub mod Colour
pub mod Transfers
pub mod Page
