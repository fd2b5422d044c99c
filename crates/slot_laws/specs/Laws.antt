-- What holds of flat code.
use Rattle.std.specs.Prelude.{◌≡◌, ℕ, ◌<◌, ◌≤◌, true, List, [], ◌∷◌, Option, Some, None, slice_get, ℤ}
use Rattle.lv_base.specs.declared.kind.Model.{Model}
use Rattle.c_run.specs.Run.{Compute}
use Rattle.c_typed.specs.Tree.{Object, Function, Program}
use Rattle.c_typed.specs.Run.{size_of, main_number}
use Rattle.c_typed.specs.Run as typed
use Rattle.c_typed.specs.Facts.{IsTyped}
use Rattle.c_typed.specs.Rules.{has, Call, calls_of, all_of_all}
use Rattle.typed_range_laws.specs.Ways.{Agrees, Way, Suits}
use Rattle.slot_code.specs.declared.flat.Instruction.{Instruction}
use Rattle.slot_code.specs.declared.flat.Instruction.TheVariants as i
use Rattle.slot_code.specs.Programs.{code_of}
use Rattle.slot_code.specs.Machine.{Machine, Next, Goes, Over, step_with, onward, rank, run_from_with, ending_of}
use Rattle.slot_code.specs.Machine as flat

-- A run from a place is the run from where the instruction there leads. So none is cut off.
abbrev pub CodeGoesOn : Type 0
CodeGoesOn = (model : Model) (compute : Compute) (inputs : List ℤ) (way : Way) (code : List Instruction) (m : Machine) →
    run_from_with model compute inputs way code m ≡ onward model compute inputs code (step_with model compute inputs way code m) (run_from_with model compute inputs way code)

-- Each instruction takes a turn, or goes forward: the rank of the machine falls.
abbrev pub Falls : Model → Compute → List ℤ → List Instruction → Machine → Next → Type 0
Falls model compute inputs code m (Goes next) = rank model compute inputs code next < rank model compute inputs code m
Falls model compute inputs code m (Over ending) = Unit {0}

abbrev pub RanksFall : Type 0
RanksFall = (model : Model) (compute : Compute) (inputs : List ℤ) (way : Way) (code : List Instruction) (m : Machine) → Falls model compute inputs code m (step_with model compute inputs way code m)

-- ---- Objects

-- an instruction that stores all values of an object has as many as the object has elements
abbrev pub IsShaped : List Object → Instruction → Type 0
IsShaped objects (i.Fill object k count) = count ≡ size_of (slice_get objects object)
IsShaped objects (i.Begin slot object count values) = (count ≡ size_of (slice_get objects object)) × (values ≤ count)
IsShaped objects (i.Bind slot object) = size_of (slice_get objects object) ≡ 1
IsShaped objects _ = Unit {0}

abbrev pub AreShaped : List Object → List Instruction → Type 0
AreShaped objects [] = Unit {0}
AreShaped objects (x ∷ xs) = IsShaped objects x × AreShaped objects xs

-- The code of a typed tree has such instructions alone.
abbrev pub CodeShaped : Type 0
CodeShaped = (program : Program) (order : List ℕ) → IsTyped program → AreShaped program.objects (code_of program order).instructions

-- ---- Orders

-- all calls are of these functions
abbrev pub CallsAmong : List ℕ → List Call → Type 0
CallsAmong before [] = Unit {0}
CallsAmong before (c ∷ cs) = (has before c.to ≡ true) × CallsAmong before cs

-- the function is there and calls these alone
abbrev pub MayStand : List ℕ → Option Function → Type 0
MayStand before None = ⊥
MayStand before (Some f) = CallsAmong before (calls_of (all_of_all f.body))

-- each function stands behind those that it calls; these stand before
abbrev pub CalleesFirst : List Function → (before order : List ℕ) → Type 0
CalleesFirst functions before [] = Unit {0}
CalleesFirst functions before (number ∷ order) = MayStand before (slice_get functions number) × CalleesFirst functions (number ∷ before) order

abbrev pub MainStands : Option ℕ → List ℕ → Type 0
MainStands None order = Unit {0}
MainStands (Some main) order = has order main ≡ true

-- An order of a program: each function stands in it behind those that it calls, and `main` is in it.
pub record IsOrder (program : Program) (order : List ℕ) : Type 0 where
  pub callees : CalleesFirst program.functions [] order
  pub main : MainStands (main_number program.functions) order

-- In such an order the code of a typed tree runs as the tree, whatever its slots hold before: with each arithmetic that agrees with
-- C's, and in each way that suits the tree's objects.
abbrev pub CodeRunsEachWay : Type 0
CodeRunsEachWay = (program : Program) (order : List ℕ) → IsTyped program → IsOrder program order → (compute : Compute) → Agrees program.model compute → (way : Way) → Suits program.model program.objects way →
    (slots inputs : List ℤ) (turns : ℕ) → flat.run_with compute way program order slots inputs turns ≡ ending_of (typed.run turns program inputs)

-- So it does where each operation tests its operands, and values are kept as they are.
abbrev pub CodeRunsAsTree : Type 0
CodeRunsAsTree = (program : Program) (order : List ℕ) → IsTyped program → IsOrder program order → (slots inputs : List ℤ) (turns : ℕ) → flat.run program order slots inputs turns ≡ ending_of (typed.run turns program inputs)
