pub mod Fitting
pub mod Bodies
pub mod Knowing
