pub mod Views
pub mod ElseLemmas
