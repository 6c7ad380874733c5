pub mod Fine
pub mod Images
pub mod Groups
pub mod PaletteLaws
pub mod Updates
