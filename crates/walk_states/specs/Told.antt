-- What an answer tells that may be a stop.
use Rattle.std.specs.Prelude.{◌≡◌, Option, None, Some, Result, Ok, Err}
use Rattle.walk_states.specs.declared.state.Stop.{Stop}
use Rattle.walk_states.specs.declared.state.Stop.TheVariants.{Memory, Differs}

-- A result, by its view, is what the definition answers; a graph differs only where that answers nothing; want of memory tells nothing.
abbrev pub Told : {A B : Type 0} → (A → B) → Result A Stop → Option B → Type 0
Told view (Ok r) answer = answer ≡ Some (view r)
Told view (Err Differs) answer = answer ≡ None
Told view (Err Memory) answer = Unit {0}
