pub mod Journal
pub mod Mark
pub mod Words
pub mod Messages
