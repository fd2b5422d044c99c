pub mod Growth
pub mod Bits
