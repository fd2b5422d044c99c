pub mod MarkLemmas
pub mod Standard
pub mod WordLemmas
