pub mod RowLaws
pub mod NoteLaws
pub mod WalkLaws
pub mod StepLaws
pub mod KeptLaws
pub mod MinimizeLaws
pub mod MinimalLaws
