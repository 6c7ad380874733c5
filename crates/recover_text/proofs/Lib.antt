pub mod Pieces
pub mod Digits
pub mod Same
pub mod Lines
pub mod Turns
pub mod Hearing
pub mod Heard
pub mod Whole
