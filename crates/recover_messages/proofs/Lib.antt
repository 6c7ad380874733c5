pub mod Scans
pub mod Marks
pub mod Choice
pub mod Plays
