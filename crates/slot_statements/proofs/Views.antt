-- Values and statements, seen by their parts.
pub use Rattle.step_values.proofs.Views.{step_Block, step_For}
pub use Rattle.slot_values.proofs.Views.{number_is}
