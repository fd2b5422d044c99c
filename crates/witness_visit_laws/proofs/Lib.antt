pub mod Laying
pub mod Seeing
pub mod Stating
pub mod Writing
