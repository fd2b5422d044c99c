-- The `while` and `for` loops of statements, and the nodes at which their visits stand.
use Rattle.std.specs.Prelude.{ℕ, zero, suc, ◌+◌, ◌-◌, ◌==◌, if◌then◌else◌, List, [], ◌∷◌, ◌++◌, length, Option, None, Some, slice_get}
use Rattle.c_typed.specs.Tree as t
use Rattle.c_graph.specs.declared.graph.LoopAt.{LoopAt}
use Rattle.slot_code.specs.declared.flat.Instruction.{Instruction}
use Rattle.slot_code.specs.declared.flat.Instruction.TheVariants as i
use Rattle.loop_turns.specs.Turning.{only_goal, stands_at}
use Rattle.cfg_build.specs.Follows.{Plan, node_of}

-- ---- The offsets of loops in a body

abbrev mutual
  -- in the order of their keywords
  pub loops_of : t.Step → List ℕ
  loops_of (t.pDraw x) = []
  loops_of (t.pBegin x vs) = []
  loops_of (t.pBlock ss) = loops_in ss
  loops_of t.pEmpty = []
  loops_of (t.pEffect v) = []
  loops_of (t.pIf v s) = loops_of s
  loops_of (t.pIfElse v a b) = loops_of a ++ loops_of b
  loops_of (t.pWhile at v s) = at ∷ loops_of s
  loops_of (t.pSwitch at k v s) = loops_of s
  loops_of (t.pDo at s v) = loops_of s
  loops_of (t.pFor at ss v w s) = at ∷ loops_of s
  loops_of (t.pCase at v s) = loops_of s
  loops_of (t.pDefault at s) = loops_of s
  loops_of (t.pLabel n at s) = loops_of s
  loops_of (t.pGoto at n b) = []
  loops_of (t.pBreak at) = []
  loops_of (t.pContinue at) = []
  loops_of (t.pReturn at v) = []

  pub loops_in : t.Steps → List ℕ
  loops_in t.no_steps = []
  loops_in (t.steps_and ss s) = loops_in ss ++ loops_of s

abbrev pub function_loops : Option t.Function → List ℕ
function_loops None = []
function_loops (Some f) = loops_in f.body

-- those of the body of the function of this number
abbrev pub main_loops : List t.Function → ℕ → List ℕ
main_loops functions main = function_loops (slice_get functions main)

-- ---- The nodes of loops

-- the place to which a turn goes, if it is of the loop at this offset
abbrev pub turn_to : Option Instruction → ℕ → Option ℕ
turn_to (Some (i.Turn at goal)) offset = if at == offset then Some goal else None
turn_to _ offset = None

abbrev pub turn_at : Plan → (place offset : ℕ) → Option ℕ
turn_at p place offset = turn_to (slice_get p.code place) offset

-- both, where they are one place
abbrev pub if_same : Option ℕ → Option ℕ → Option ℕ
if_same (Some goal) (Some only) = if goal == only then Some goal else None
if_same _ _ = None

-- the place to which all turns of a loop in this code go, if one of them stands at this place
abbrev pub loop_goal : Plan → List Instruction → (place offset : ℕ) → Option ℕ
loop_goal p code place offset = if_same (turn_at p place offset) (only_goal (stands_at offset code (length code)))

-- A loop at whose offset a turn stood that goes to this place, and the loops of what is left behind it; what is left as it was where none
-- stood.
abbrev pub with_loop : Plan → ℕ → Option ℕ → (behind waiting : List LoopAt) → List LoopAt
with_loop p at None behind waiting = waiting
with_loop p at (Some goal) behind waiting = record { at = at; node = node_of p goal } ∷ behind

-- Of so many places from one on, and of the offsets that are left: the first place at which a turn of the next loop stands gives the
-- loop's node, and the places behind it those of the loops that follow.
abbrev pub loops_from : Plan → (place count : ℕ) → List ℕ → List LoopAt
loops_from p place zero offsets = []
loops_from p place (suc n) [] = []
loops_from p place (suc n) (at ∷ rest) = with_loop p at (loop_goal p p.code place at) (loops_from p (place + 1) n rest) (loops_from p (place + 1) n (at ∷ rest))

-- the loops at these offsets
abbrev pub loops_at : Plan → List ℕ → List LoopAt
loops_at p offsets = loops_from p p.range.entry (p.range.end - p.range.entry) offsets
