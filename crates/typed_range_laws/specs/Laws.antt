-- What holds of the values of typed trees.
use Rattle.std.specs.Prelude.{◌≡◌, ℕ, List, ℤ}
use Rattle.c_run.specs.Run.{End, Compute}
use Rattle.c_typed.specs.Tree.{Program}
use Rattle.c_typed.specs.Facts.{IsTyped}
use Rattle.c_typed.specs.Run.{run, run_main, end_of_run, main_number, start_store}
use Rattle.typed_range_laws.specs.Guards.{guarded}
use Rattle.typed_range_laws.specs.Ways.{Agrees, Way, Suits}
use Rattle.typed_range_laws.specs.Keeping as keeping

-- the run that computes so
abbrev pub run_by : Compute → ℕ → Program → List ℤ → End
run_by compute turns program inputs =
    end_of_run (run_main program compute inputs turns (main_number program.functions) (record { store = start_store program.objects; taken = 0; turns = turns }))

-- A typed tree runs the same with each arithmetic that agrees with C's.
abbrev pub RunsAgreeing : Type 0
RunsAgreeing = (program : Program) → IsTyped program → (compute : Compute) → Agrees program.model compute → (turns : ℕ) (inputs : List ℤ) → run_by compute turns program inputs ≡ run turns program inputs

-- the run that computes so, in such a way
abbrev pub run_with : Compute → Way → ℕ → Program → List ℤ → End
run_with compute way turns program inputs =
    end_of_run (keeping.run_main program compute way inputs turns (main_number program.functions) (record { store = start_store program.objects; taken = 0; turns = turns }))

-- A typed tree runs the same with each such arithmetic and each way that suits its objects.
abbrev pub RunsEachWay : Type 0
RunsEachWay = (program : Program) → IsTyped program → (compute : Compute) → Agrees program.model compute → (way : Way) → Suits program.model program.objects way → (turns : ℕ) (inputs : List ℤ) →
    run_with compute way turns program inputs ≡ run turns program inputs

-- the run in which each operation tests its operands
abbrev pub guarded_run : ℕ → Program → List ℤ → End
guarded_run turns program inputs = run_by (λ op kind x y. guarded program.model op kind x y) turns program inputs

-- A typed tree runs so too: no operation meets an operand of another kind.
abbrev pub RunsGuarded : Type 0
RunsGuarded = (program : Program) → IsTyped program → (turns : ℕ) (inputs : List ℤ) → guarded_run turns program inputs ≡ run turns program inputs
