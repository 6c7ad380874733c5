pub mod Fresh
pub mod Walking
