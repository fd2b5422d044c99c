pub mod Maps
pub mod Faults
