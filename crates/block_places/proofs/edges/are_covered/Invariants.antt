use Rattle.std.proofs.Common.{◌≡◌, ◌<◌, ℕ, true, Some, slice_get, take}
use Rattle.c_graph.specs.declared.graph.EdgeId.{EdgeId}
use Rattle.block_places.specs.Covering.{IsCovered}
use Rattle.block_places.specs.Made as made
use Rattle.block_places.proofs.edges.are_covered.Given as goal

abbrev pub invariant-loop-number : goal.invariant-loop-number
invariant-loop-number l =
    ((j : ℕ) (out : EdgeId) → j < l.number → slice_get l.outs j ≡ Some out → IsCovered l.graph l.ways out.0)
    × (made.are_covered l.graph l.ways (take l.number l.outs) ≡ true)
