-- What holds of all runs of all typed trees.
use Rattle.std.specs.Prelude.{◌≡◌, ◌⊎◌, ℕ, ◌<◌, ◌≤◌, List, slice_get, ℤ}
use Rattle.lv_base.specs.declared.fault.ErrorKind.{ErrorKind}
use Rattle.c_run.specs.Run.{End, Error, Spent}
use Rattle.c_typed.specs.Tree.{Program}
use Rattle.c_typed.specs.Run.{run}

abbrev pub IsSpent : End → Type 0
IsSpent (Spent at store taken) = Unit {0}
IsSpent _ = ⊥

-- A run that isn't out of turns is the same with more turns.
abbrev pub MoreTurns : Type 0
MoreTurns = (program : Program) → (inputs : List ℤ) → (turns more : ℕ) → turns ≤ more →
    IsSpent (run turns program inputs) ⊎ (run turns program inputs ≡ run more program inputs)

-- The inputs behind those that were drawn don't matter to an error.
abbrev pub DrawnInputs : Type 0
DrawnInputs = (program : Program) → (turns : ℕ) → (inputs others : List ℤ) → (kind : ErrorKind) → (at taken : ℕ) →
    run turns program inputs ≡ Error kind at taken →
    ((i : ℕ) → i < taken → slice_get others i ≡ slice_get inputs i) →
    run turns program others ≡ Error kind at taken
