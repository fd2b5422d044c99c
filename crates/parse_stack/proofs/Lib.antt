pub mod StackLemmas
pub mod Views
