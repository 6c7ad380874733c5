pub mod EntryLaws
pub mod WriteLaws
