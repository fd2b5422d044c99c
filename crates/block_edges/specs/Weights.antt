-- How many edges runs take through the blocks of a graph of blocks.
use Rattle.std.specs.Prelude.{ℕ, ◌<◌, ◌≤◌, ◌≡◌, ◌⊎◌, true, ◌∷◌, length}
use Rattle.std.proofs.Common.{inl, inr}
use Rattle.c_graph.specs.Shape.{Flow}
use Rattle.program_graphs.specs.Weighing.{total}
use Rattle.block_rule.specs.Plans.{Plan, matters}
use Rattle.block_edges.specs.Exact.{HasBlock, HasKept, HasNoMore}

-- through a block a run goes over each of its places once at most; an edge that was kept is one
abbrev pub places_in : (g h : Flow) (plan : Plan) (v : ℕ) → HasBlock g h plan v ⊎ HasKept g h plan v → ℕ
places_in g h plan v (inl block) = length (block.begins.first ∷ block.begins.others)
places_in g h plan v (inr kept) = 1

-- each cut point that matters weighs as many at least
abbrev pub AreEnough : (g h : Flow) (plan : Plan) → HasNoMore g h plan → (ℕ → ℕ) → Type 0
AreEnough g h plan more weight =
    (v : ℕ) (lt : v < length g.nodes) (cut : plan.cuts v ≡ true) (alive : matters plan v ≡ true) → places_in g h plan v (more.blocks v lt cut alive) ≤ weight v

-- a graph of blocks has no more than the rule says, and its nodes weigh enough, and together no more than the graph has nodes
pub record IsExact (g h : Flow) (plan : Plan) : Type 0 where
  pub more : HasNoMore g h plan
  pub weight : ℕ → ℕ
  pub enough : AreEnough g h plan more weight
  pub few : total weight (length h.nodes) ≤ length g.nodes
