pub mod Line
pub mod Walk
