pub mod Rowing
