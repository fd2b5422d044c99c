pub mod Made
pub mod Plans
