mod Knowing
pub mod Views
