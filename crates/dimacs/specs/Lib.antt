pub mod Dimacs
