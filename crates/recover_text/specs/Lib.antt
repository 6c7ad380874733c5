pub mod Text
pub mod Page
pub mod Rows
pub mod Speak
pub mod Place
pub mod Report
