pub mod Tree
pub mod View
pub mod Run
pub mod Rules
pub mod Facts
pub mod Parts
pub mod Laws
