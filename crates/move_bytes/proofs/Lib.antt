pub mod Copies
pub mod RowLaws
pub mod ImageLaws
pub mod MoveLaws
pub mod StartLaws
