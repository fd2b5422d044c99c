mod Beginning
pub mod Fitting
pub mod Stepping
