pub mod Counts
pub mod Walks
pub mod ListWalks
pub mod HashWalks
pub mod TermWalks
pub mod LogWalks
pub mod Whole
pub mod Refusals
mod Fronts
mod Growing
mod FrontSteps
mod FrontLists
mod FrontFields
pub mod ReadBack
mod Completing
