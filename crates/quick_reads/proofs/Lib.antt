pub mod ReadLaws
pub mod BlockLaws
