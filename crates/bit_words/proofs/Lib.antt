pub mod FoldLaws
pub mod FoldingLaws
pub mod WordPuts
