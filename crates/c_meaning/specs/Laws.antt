-- What holds of all runs of all sources, under any arithmetic.
use Rattle.std.specs.Prelude.{◌≡◌, ◌⊎◌, ℕ, ◌<◌, ◌≤◌, Bool, true, List, length, slice_get, ℤ}
use Rattle.lv_base.specs.declared.kind.Model.{Model}
use Rattle.lv_base.specs.declared.fault.ErrorKind.{ErrorKind}
use Rattle.c_tree.specs.Tree.{Items}
use Rattle.c_run.specs.Run.{Compute, End, Error, Spent}
use Rattle.c_meaning.specs.Program.{run_with}
use Rattle.c_meaning.specs.Places.{InItems}

abbrev pub IsSpent : End → Type 0
IsSpent (Spent at store taken) = Unit {0}
IsSpent _ = ⊥

-- A run that isn't out of turns is the same with more turns.
abbrev pub MoreTurns : Type 0
MoreTurns = (compute : Compute) → (items : Items) → (model : Model) → (inputs : List ℤ) → (turns more : ℕ) → turns ≤ more →
    IsSpent (run_with compute turns items model inputs) ⊎ (run_with compute turns items model inputs ≡ run_with compute more items model inputs)

-- The inputs behind those that were drawn don't matter: an error that has drawn so many is the same on any list that begins
-- with these.
abbrev pub DrawnInputs : Type 0
DrawnInputs = (compute : Compute) → (items : Items) → (model : Model) → (turns : ℕ) → (inputs others : List ℤ) → (kind : ErrorKind) → (at taken : ℕ) →
    run_with compute turns items model inputs ≡ Error kind at taken →
    ((i : ℕ) → i < taken → slice_get others i ≡ slice_get inputs i) →
    run_with compute turns items model others ≡ Error kind at taken

-- A run draws no more inputs than there are.
abbrev pub DrawnAreThere : Type 0
DrawnAreThere = (compute : Compute) → (items : Items) → (model : Model) → (turns : ℕ) → (inputs : List ℤ) → (kind : ErrorKind) → (at taken : ℕ) →
    run_with compute turns items model inputs ≡ Error kind at taken → taken ≤ length inputs

-- An error stands at a token of the source that calls, indexes or computes: a test that each of these passes
-- is passed there.
abbrev pub ErrorPlaces : Type 0
ErrorPlaces = (compute : Compute) → (items : Items) → (model : Model) → (turns : ℕ) → (inputs : List ℤ) → (kind : ErrorKind) → (at taken : ℕ) →
    run_with compute turns items model inputs ≡ Error kind at taken →
    (test : ℕ → Bool) → InItems (λ place. test place ≡ true) items → test at ≡ true
