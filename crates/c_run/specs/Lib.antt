pub mod Run
pub mod Operators
pub mod Loops
pub mod Laws
pub mod Breaking
