pub mod Walks
pub mod Turns
pub mod Rules
pub mod Trying
pub mod Ready
pub mod Leaves
pub mod Ending
