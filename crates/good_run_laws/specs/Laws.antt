-- What runs of sources that break no rule never meet.
use Rattle.std.specs.Prelude.{◌≡◌, ℕ, zero, suc, Bool, true, false, not, List, [], Option, Some, None, ℤ, slice_get}
use Rattle.lv_base.specs.declared.kind.Model.{Model}
use Rattle.c_tree.specs.Tree.{Items}
use Rattle.c_run.specs.Run.{State, Got, Value, Stop, Run, give, ◌>>=◌, spent, Compute}
use Rattle.c_run.specs.Loops.{toLabel, toCase, toDefault, From, Start, Seek, Exit, Normal, Broke, Continued, Returned, Jumped, Absent, Calls, enter}
use Rattle.c_meaning.specs.Execution.{exec_all}
use Rattle.c_meaning.specs.Good.{Good}
use Rattle.c_meaning.specs.Jumps.{Jump, labels_of_all, has_name}
use Rattle.c_meaning.specs.Program.{Function, functions_of, env_of, context}

-- A place that may be absent among these labels: the body's start never is, nor a label of them, and a case is sought only
-- by its switch.
abbrev pub may_lack : From → List Jump → Bool
may_lack Start labels = false
may_lack (Seek (toLabel name)) labels = not (has_name name labels)
may_lack (Seek (toCase kind value)) labels = true
may_lack (Seek toDefault) labels = true

-- left with nothing absent, but where that may be, and by a jump only to one of these labels
abbrev pub IsLeftBy : List Jump → Bool → Exit → Type 0
IsLeftBy labels lacking Normal = Unit {0}
IsLeftBy labels lacking Broke = Unit {0}
IsLeftBy labels lacking Continued = Unit {0}
IsLeftBy labels lacking (Returned v) = Unit {0}
IsLeftBy labels lacking (Jumped name) = has_name name labels ≡ true
IsLeftBy labels lacking Absent = lacking ≡ true

abbrev pub IsLeft : List Jump → Bool → Got Exit → Type 0
IsLeft labels lacking (Value exit st) = IsLeftBy labels lacking exit
IsLeft labels lacking (Stop end) = Unit {0}

abbrev pub BodiesLeft : Type 0
BodiesLeft = (items : Items) → (model : Model) → Good items model → (number : ℕ) → (f : Function) → slice_get (functions_of (env_of items model) items) number ≡ Some f →
    (compute : Compute) → (inputs : List ℤ) → (call : Calls) → (turns : ℕ) → (from : From) → (st : State) →
    IsLeft (labels_of_all (env_of items model) [] f.body) (may_lack from (labels_of_all (env_of items model) [] f.body))
    (exec_all (context (env_of items model) model compute inputs (functions_of (env_of items model) items) call) f.result turns f.body from st)

-- ---- Calls

-- as a body is left and entered again, but for what is done where a label is absent
abbrev pub left_or : Run (Option ℤ) → Exit → (List ℕ → Run (Option ℤ)) → Run (Option ℤ)
left_or stray (Returned v) again = give v
left_or stray (Jumped label) again = again label
left_or stray Absent again = stray
left_or stray exit again = give None

abbrev pub enter_or : Run (Option ℤ) → ℕ → (From → Run Exit) → From → Run (Option ℤ)
enter_or stray zero body from = spent 0
enter_or stray (suc n) body from = do
  exit ← body from
  left_or stray exit (λ label. enter_or stray n body (Seek (toLabel label)))

-- whatever were done there
abbrev pub LabelsFound : Type 0
LabelsFound = (items : Items) → (model : Model) → Good items model → (number : ℕ) → (f : Function) → slice_get (functions_of (env_of items model) items) number ≡ Some f →
    (compute : Compute) → (inputs : List ℤ) → (call : Calls) → (turns entries : ℕ) → (stray : Run (Option ℤ)) → (st : State) →
    enter_or stray entries (exec_all (context (env_of items model) model compute inputs (functions_of (env_of items model) items) call) f.result turns f.body) Start st
    ≡ enter entries (exec_all (context (env_of items model) model compute inputs (functions_of (env_of items model) items) call) f.result turns f.body) Start st
