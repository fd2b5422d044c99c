pub mod Views
mod Bools
pub mod Leading
mod Ranks
mod Acyclic
mod Peeling
mod Confirming
pub mod Arms
mod Walking
