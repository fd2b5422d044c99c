pub mod Operands
pub mod Laws
