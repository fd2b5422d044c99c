use Rattle.std.proofs.Common.{◌≡◌, ◌<◌, ℕ, true, Some, slice_get, take}
use Rattle.c_graph.specs.declared.graph.Node.{Node}
use Rattle.plan_tables.specs.Tables.{flag_at}
use Rattle.plan_tests.specs.Made as made
use Rattle.plan_tests.specs.Nodes.{IsWatched}
use Rattle.plan_tests.specs.Passes.{all_at}
use Rattle.plan_tests.proofs.nodes.are_watched.Given as goal

abbrev pub invariant-loop-number : goal.invariant-loop-number
invariant-loop-number l =
    ((v : ℕ) (x : Node) → v < l.number → slice_get l.nodes v ≡ Some x → IsWatched x (flag_at l.known.alive v))
    × (all_at (made.is_watched l.known) 0 (take l.number l.nodes) ≡ true)
