pub mod Views
pub mod Marking
pub mod Arms
