pub mod Constants
pub mod Divisions
pub mod Faults
pub mod Forms
pub mod Laws
pub mod Spans
