-- A board and what its instructions lead to, in the words of runs.
use Rattle.std.specs.Prelude.{ℕ, suc, List, ◌∷◌, length, map, ℤ}
use Rattle.lv_base.specs.declared.kind.Model.{Model}
use Rattle.c_run.specs.Run.{State}
use Rattle.slot_code.specs.declared.flat.Instruction.{Instruction}
use Rattle.slot_code.specs.Machine.{machine, Next, Goes, Over, act}
use Rattle.slot_board.specs.declared.board.Board.{Board}
use Rattle.slot_board.specs.declared.step.Step.{Step}
use Rattle.slot_board.specs.declared.step.Step.TheVariants as step
use Rattle.slot_board.specs.Seen.{state, compute_of}

abbrev pub state_of : Board → State
state_of b = state b.store.items b.taken b.turns

-- behind the instruction at this place
abbrev pub next_of : ℕ → Step → Board → Next
next_of place step.Next b = Goes (machine (suc place) b.slots.items (state_of b))
next_of place (step.Goes goal) b = Goes (machine goal b.slots.items (state_of b))
next_of place (step.Over e) b = Over e

-- what the instruction at this place leads to
abbrev pub act_of : Model → List ℤ → Instruction → ℕ → Board → Next
act_of model inputs x place b = act model (λ op kind x y. compute_of model op kind x y) inputs x place b.slots.items (state_of b)

-- how many slots there are, and how many elements each object has: a run changes none of these
abbrev pub shape_of : Board → List ℕ
shape_of b = length b.slots.items ∷ map length b.store.items
