pub mod Numbers
pub mod WellFormed
pub mod Values
pub mod Keys
pub mod Laws
