pub mod Reads
pub mod Formulas
pub mod Readings
pub mod Deciding
