pub mod Consuming
pub mod Choosing
pub mod Walking
