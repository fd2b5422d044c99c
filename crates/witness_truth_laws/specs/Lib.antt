pub mod Written
pub mod Trees
pub mod Telling
pub mod Laws
