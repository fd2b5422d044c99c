-- The one graph of a program.
use Rattle.std.specs.Prelude.{ℕ, ◌≡◌, List}
use Rattle.c_typed.specs.Parts.{Parts, tree_of}
use Rattle.call_order.specs.Order.{callees}
use Rattle.call_order.specs.Walks.{order_by_walk}
use Rattle.c_graph.specs.Shape.{Flow}
use Rattle.c_graph.specs.Functions.{Flows}
use Rattle.cfg_build.specs.Built.{built}
use Rattle.call_inline.specs.Inlined.{inlined}
use Rattle.block_join.specs.Made.{joined}

-- the order in which a walk along the calls of a tree's functions leaves them
abbrev pub own_order : Parts → List ℕ
own_order t = order_by_walk (callees (tree_of t))

-- the graphs of its functions, in that order
unfoldable pub built_of : Parts → Flows
built_of t = built t (own_order t)

-- the graph of `main` in which each call is a copy
abbrev pub whole_of : Parts → Flow
whole_of t = inlined (built_of t)

-- the graph of its blocks
unfoldable pub joined_of : Parts → Flow
joined_of t = joined (whole_of t)

-- Two typed trees in memory that say the same have one graph.
abbrev pub GraphsAreOfTrees : Type 0
GraphsAreOfTrees = (t u : Parts) → tree_of t ≡ tree_of u → whole_of t ≡ whole_of u

-- So they have one graph of blocks.
abbrev pub BlocksAreOfTrees : Type 0
BlocksAreOfTrees = (t u : Parts) → tree_of t ≡ tree_of u → joined_of t ≡ joined_of u
