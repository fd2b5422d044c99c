-- What is known of the places of a graph, as lists.
use Rattle.std.specs.Prelude.{ℕ, Bool, List, Option}
use Rattle.c_graph.specs.declared.graph.NodeId.{NodeId}
use Rattle.block_plan.specs.declared.regular.Ways.{Ways}

-- the ways out of each node, the nodes that are reached, those that are alive, those that matter, the cut points, the sure places, and
-- the cut point at which each place's block begins
pub record Plan : Type 0 where
  pub ways : List Ways
  pub reached : List Bool
  pub alive : List Bool
  pub matters : List Bool
  pub cuts : List Bool
  pub sure : List Bool
  pub starts : List (Option ℕ)

-- the ways up by the node that they lead to, and where each edge begins
pub record WayChains : Type 0 where
  pub first : List (Option ℕ)
  pub next : List (Option ℕ)
  pub from : List NodeId
