-- Graphs of a program's functions have few edges.
use Rattle.std.specs.Prelude.{ℕ, ◌≡◌, ◌⊎◌, List}
use Rattle.c_typed.specs.Parts.{Parts}
use Rattle.c_graph.specs.Functions.{Flows}
use Rattle.c_graph.specs.Parts.{error_flows}
use Rattle.cfg_build.specs.Graphs.{ProgramFollows}
use Rattle.call_inline.specs.Layout.{AreSparse}

-- Function graphs that follow a program's code are sparse, and so are those that stand where parts make none.
abbrev pub BuiltIsSparse : Type 0
BuiltIsSparse = (t : Parts) (order : List ℕ) (p : Flows) → ProgramFollows t order p ⊎ (p ≡ error_flows) → AreSparse p
