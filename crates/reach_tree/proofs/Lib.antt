pub mod Growth
pub mod Labels
