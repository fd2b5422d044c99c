-- Arenas of nodes, each over those before it.
use Rattle.std.specs.Prelude.{ℕ, ◌+◌, ◌^◌, ◌<◌, ◌≤◌, ◌≡◌, ◌≢◌, List, [], ◌∷◌, ◌++◌, length, slice_index}
use Rattle.formula_diagrams.specs.declared.items.BitOf.{BitOf}
use Rattle.formula_diagrams.specs.declared.items.Node.{Node}

-- an arena: the widths of the cells whose bits it asks for, the most nodes that it may have, and its nodes. The numbers 0
-- and 1 are the ends false and true; the first node has the number 2
pub record Arena : Type 0 where
  pub cells : List ℕ
  pub most : ℕ
  pub nodes : List Node

-- how many numbers there are
abbrev pub count : Arena → ℕ
count a = length a.nodes + 2

-- the bit is one of a cell's
abbrev pub IsBitIn : List ℕ → BitOf → Type 0
IsBitIn cells b = (b.cell < length cells) × (b.bit < slice_index cells b.cell)

-- the node asks for a bit of a cell, and its two sides, which differ, are below n
pub record FitsNode (cells : List ℕ) (n : ℕ) (node : Node) : Type 0 where
  pub top : IsBitIn cells node.top
  pub low : node.low.0 < n
  pub high : node.high.0 < n
  pub differ : node.low.0 ≢ node.high.0

-- each node is over those before it, the first one having the number n
abbrev pub AllFit : List ℕ → ℕ → List Node → Type 0
AllFit cells n [] = Unit {0}
AllFit cells n (x ∷ xs) = FitsNode cells n x × AllFit cells (n + 1) xs

-- what an arena keeps
pub record IsArena (a : Arena) : Type 0 where
  pub nodes : AllFit a.cells 2 a.nodes
  pub few : length a.nodes ≤ a.most
  pub most : a.most ≤ 2 ^ 31

-- the arena with the node at its end
abbrev pub with_node : Arena → Node → Arena
with_node a node = record { cells = a.cells; most = a.most; nodes = a.nodes ++ node ∷ [] }

-- the second arena is the first with further nodes at its end
pub record Grown (old new : Arena) : Type 0 where
  pub cells : new.cells ≡ old.cells
  pub most : new.most ≡ old.most
  pub nodes : (more : List Node) × (new.nodes ≡ old.nodes ++ more)
