pub mod Building
pub mod Naming
