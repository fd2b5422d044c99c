pub mod Elaborated
pub mod Fit
pub mod Laws
