use Rattle.std.proofs.Common.{◌≡◌, ℕ, List, drop}
use Rattle.std.specs.Prelude.{bytes_eq}
use Rattle.std.specs.List.{position_from, position}
use Rattle.typed_values.proofs.calls.function_number.Given as goal

-- what is left has it where all have it
abbrev pub invariant-loop-i : goal.invariant-loop-i
invariant-loop-i l = position_from (λ (n : List ℕ). bytes_eq n l.name) l.i (drop l.i l.bodies) ≡ position (λ (n : List ℕ). bytes_eq n l.name) l.bodies
