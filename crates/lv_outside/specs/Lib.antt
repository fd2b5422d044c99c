pub mod Bytes
pub mod Counts
pub mod Folders
pub mod Got
pub mod Mem
