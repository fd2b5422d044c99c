pub mod Witnesses
pub mod Decisions
pub mod Refinements
pub mod Drawn
pub mod Refusals
