pub mod CodeLaws
pub mod ValueLaws
pub mod EntryLaws
