-- An examined tree by its parts.
use Rattle.std.specs.Prelude.{List, ℕ}
use Rattle.c_typed.specs.Parts as typed
use Rattle.c_rules.specs.declared.label.LabelAt.{LabelAt}

pub record Parts : Type 0 where
  pub typed : typed.Parts
  pub labels : List LabelAt
  pub order : List ℕ
