-- The one graph of `main` in which each call is a copy of the called function's graph.
use Rattle.std.specs.Prelude.{ℕ}
use Rattle.c_graph.specs.Shape.{Flow}
use Rattle.c_graph.specs.Functions.{Flows}
use Rattle.call_inline.specs.Copying.{Offsets, all_offsets, copies_after, graph_of}
use Rattle.call_inline.specs.Sizes.{copy_nodes}

-- How many nodes a copy of a function has, with the copies of all that it calls, where these are at most 65,536: each call on the way down
-- has a node of its own, so that no more calls than that stand in each other.
unfoldable pub size_of : Flows → ℕ → ℕ
size_of p f = copy_nodes p.graphs 65536 f

abbrev pub own_offsets : Flows → Offsets
own_offsets p = all_offsets (size_of p) p.graphs

abbrev pub inlined : Flows → Flow
inlined p = graph_of p (own_offsets p) (copies_after p (own_offsets p) (size_of p p.main)) (size_of p p.main)
