pub mod Views
pub mod Stacks
pub mod ItemLemmas
pub mod OtherLemmas
pub mod ReadingLaws
pub mod RunLemmas
pub mod TurnLemmas
