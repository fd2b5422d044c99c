pub mod Shown
pub mod Numbers
pub mod Operations
pub mod Fitting
pub mod Made
