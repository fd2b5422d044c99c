-- Values, seen by their parts.
pub use Rattle.step_values.proofs.Views.{value_Call, value_Comma}
