pub mod PanDocs
pub mod Cartridge
pub mod Registers
pub mod Behaviour
pub mod Answers
pub mod Mbc
