pub mod Returning
