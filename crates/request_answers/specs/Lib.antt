pub mod Answers
pub mod Laws
pub mod Printed
pub mod Stored
pub mod Witnessed
