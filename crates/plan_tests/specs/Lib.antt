pub mod Cells
pub mod Nodes
pub mod Reads
pub mod Flow
pub mod Passes
pub mod Made
