pub mod Related
pub mod Relations
mod Elements
