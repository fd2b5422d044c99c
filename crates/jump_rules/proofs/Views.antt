-- Steps, seen by their parts.
pub use Rattle.step_values.proofs.Views.{step_Block, step_For}
