-- The cells that are read from a node on, as far as they are known.
use Rattle.std.specs.Prelude.{ℕ, ◌<◌, ◌≡◌, nat_lt, ◌&&◌, Bool, true, List, length, Option, None, Some}
use Rattle.c_graph.specs.declared.graph.Cell.{Cell}
use Rattle.walk_states.specs.declared.known.Known.{Known}
use Rattle.walk_states.specs.Known.{plan_of}
use Rattle.block_join.specs.declared.live.LiveCells.{LiveCells}

-- what a plan says, or all of them without one
abbrev pub live_by : Option Known → ℕ → ℕ → Bool
live_by None node cell = true
live_by (Some known) node cell = (plan_of known).live node cell

-- of the cells of the first graph, which are so many, and of no other
abbrev pub live_at : LiveCells → ℕ → ℕ → Bool
live_at l node cell = nat_lt cell l.count && live_by l.known node cell

-- none is marked but these cells
abbrev pub MarksWithin : (ℕ → ℕ → Bool) → List Cell → Type 0
MarksWithin marks cells = (node c : ℕ) → marks node c ≡ true → c < length cells
