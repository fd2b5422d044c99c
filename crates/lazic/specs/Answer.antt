-- The answer to some words, by the files.
use Rattle.std.specs.Prelude.{ℕ, ◌≡◌, List, length, nat_lt, if◌then◌else◌, Option, Some, None, ℤ, Result, Ok, Err}
use Rattle.lv_base.specs.Place.{place_at}
use Rattle.lv_base.specs.declared.kind.Model.{Model}
use Rattle.lv_base.specs.declared.fail.SourceFail.{SourceFail}
use Rattle.lv_base.specs.declared.fail.SourceFail.TheVariants.{Fault, Over as OverLimit, Memory}
use Rattle.c_tree.specs.Tree.{Items}
use Rattle.c_meaning.specs.Program as program
use Rattle.stored_text.specs.declared.StoredFail.{StoredFail}
use Rattle.stored_text.specs.declared.StoredFail.TheVariants as stored
use Rattle.stored_text.specs.Reading.{read_run_of}
use Rattle.source_reading.specs.Reading.{source_read}
use Rattle.lazic.specs.Running.{said_of}
use Rattle.lazic.specs.Words.{Wanted, request_of}
use Rattle.lazic.specs.declared.outcome.Outcome.{Outcome}
use Rattle.lazic.specs.declared.outcome.Outcome.TheVariants.{Usage, ReadFault, Over, Faulty, BadRun, Reached, Ended, OutOfTurns, NeedsMore, BadValue, NoMemory}

-- why a run file is none
abbrev pub run_refused : StoredFail → Outcome
run_refused (stored.Format at) = BadRun at
run_refused (stored.Over number count) = Over number count
run_refused stored.Memory = NoMemory

abbrev pub values_outcome : Model → ℕ → List ℕ → Items → Result (List ℤ) StoredFail → Outcome
values_outcome model turns source tree (Err fail) = run_refused fail
values_outcome model turns source tree (Ok values) = said_of source turns values (program.run turns tree model values)

-- the answer where the source has this tree and the run file these bytes
abbrev pub run_outcome : Model → ℕ → List ℕ → Items → List ℕ → Outcome
run_outcome model turns source tree run = values_outcome model turns source tree (read_run_of run)

-- why a source is refused
abbrev pub refused : List ℕ → SourceFail → Outcome
refused source (Fault fault at) = Faulty fault (place_at source at)
refused source (OverLimit number count) = Over number count
refused source Memory = NoMemory

abbrev pub tree_outcome : Model → ℕ → List ℕ → Result Items SourceFail → List ℕ → Outcome
tree_outcome model turns source (Err fail) run = refused source fail
tree_outcome model turns source (Ok tree) run = run_outcome model turns source tree run

abbrev pub source_outcome : Model → ℕ → List ℕ → List ℕ → Outcome
source_outcome model turns source run =
    if nat_lt 1048576 (length source) then Over 1 1048577 else tree_outcome model turns source (source_read model source) run

abbrev pub wanted_outcome : Option Wanted → (List ℕ → List ℕ) → Outcome
wanted_outcome None file = Usage
wanted_outcome (Some wanted) file = source_outcome wanted.model wanted.turns (file wanted.source) (file wanted.run)

-- the answer to these words, where the files are these
abbrev pub outcome_of : List (List ℕ) → (List ℕ → List ℕ) → Outcome
outcome_of words file = wanted_outcome (request_of words) file

-- An answer has its cause: a read fault that a count rose, want of memory nothing, and any other that it is the right
-- one, where the files are told.
abbrev pub IsCaused : Type 0 → Type 0 → Outcome → Outcome → Type 0
IsCaused rose told right ReadFault = rose
IsCaused rose told right NoMemory = Unit {0}
IsCaused rose told right Usage = right ≡ Usage
IsCaused rose told right (BadRun at) = told → right ≡ BadRun at
IsCaused rose told right Ended = told → right ≡ Ended
IsCaused rose told right NeedsMore = told → right ≡ NeedsMore
IsCaused rose told right (Faulty fault place) = told → right ≡ Faulty fault place
IsCaused rose told right (Over number count) = told → right ≡ Over number count
IsCaused rose told right (BadValue i) = told → right ≡ BadValue i
IsCaused rose told right (OutOfTurns turns) = told → right ≡ OutOfTurns turns
IsCaused rose told right (Reached kind at values) = told → right ≡ Reached kind at values
