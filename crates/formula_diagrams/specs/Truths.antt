-- The truth of each node of an arena in a store.
use Rattle.std.specs.Prelude.{ℕ, ◌+◌, ◌<◌, ◌≡◌, ◌==◌, Bool, true, false, List, [], ◌∷◌, ◌++◌, slice_index, slice_index_or}
use Rattle.bv_term.specs.Numbers.{bit_of}
use Rattle.formula_diagrams.specs.declared.items.BitOf.{BitOf}
use Rattle.formula_diagrams.specs.declared.items.NodeId.{NodeId}
use Rattle.formula_diagrams.specs.declared.items.Node.{Node}
use Rattle.formula_diagrams.specs.Shape.{Arena, count}

-- one of two truths
abbrev pub choice : Bool → Bool → Bool → Bool
choice true x y = x
choice false x y = y

-- the bit is 1 in the store
unfoldable pub is_set : List ℕ → BitOf → Bool
is_set store b = bit_of b.bit (slice_index store b.cell) == 1

-- the truth of a node, the earlier numbers having these truths
abbrev pub truth_in : List ℕ → List Bool → Node → Bool
truth_in store ts node =
    choice (is_set store node.top) (slice_index_or ts node.high.0 false) (slice_index_or ts node.low.0 false)

-- the truths of earlier numbers, and then of these nodes
abbrev pub truths_after : List ℕ → List Bool → List Node → List Bool
truths_after store ts [] = ts
truths_after store ts (x ∷ xs) = truths_after store (ts ++ truth_in store ts x ∷ []) xs

-- the truth in a store of the node of a number
unfoldable pub holds : Arena → List ℕ → ℕ → Bool
holds a store n = slice_index_or (truths_after store (false ∷ true ∷ []) a.nodes) n false

-- the number is in the arena, and its truth in each store is this function of the store
pub record Tells (a : Arena) (n : NodeId) (f : List ℕ → Bool) : Type 0 where
  pub there : n.0 < count a
  pub told : (store : List ℕ) → holds a store n.0 ≡ f store
