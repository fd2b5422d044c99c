-- The answers of runs of a typed tree, for each source that it runs as.
use Rattle.std.specs.Prelude.{ℕ, ◌≡◌, ◌⊎◌, List, ℤ}
use Rattle.lv_base.specs.declared.kind.Model.{Model}
use Rattle.c_tree.specs.Tree.{Items}
use Rattle.c_meaning.specs.Program.{run}
use Rattle.c_typed.specs.Tree.{Program}
use Rattle.lazic.specs.Answer.{run_outcome}
use Rattle.source_reading.specs.Reading.{RunsAs}
use Rattle.lazic.specs.Running.{said_of}
use Rattle.lazic.specs.declared.outcome.Outcome.{Outcome}
use Rattle.lazic.specs.declared.outcome.Outcome.TheVariants.{NoMemory}

-- on these values
abbrev pub IsRunOn : Program → ℕ → List ℕ → List ℤ → Outcome → Type 0
IsRunOn program turns source values answer =
    (tree : Items) (model : Model) → RunsAs program tree model → (answer ≡ NoMemory) ⊎ (answer ≡ said_of source turns values (run turns tree model values))

-- on those of a file with these bytes
abbrev pub IsRunOf : Program → ℕ → List ℕ → List ℕ → Outcome → Type 0
IsRunOf program turns source file answer =
    (tree : Items) (model : Model) → RunsAs program tree model → (answer ≡ NoMemory) ⊎ (answer ≡ run_outcome model turns source tree file)
