-- Two formulas joined, and what is known of joined pairs of numbers.
use Rattle.std.specs.Prelude.{ℕ, ◌+◌, ◌<◌, ◌≡◌, ◌==◌, ◌&&◌, ◌||◌, Bool, true, false, not, List, Option, Some, None, All, if◌then◌else◌}
use Rattle.formula_diagrams.specs.declared.items.BitOf.{BitOf}
use Rattle.formula_diagrams.specs.declared.items.NodeId.{NodeId}
use Rattle.formula_diagrams.specs.declared.items.Node.{Node}
use Rattle.formula_diagrams.specs.declared.pairs.Join.{Join}
use Rattle.formula_diagrams.specs.declared.pairs.Join.TheVariants.{Both, Either, Same}
use Rattle.formula_diagrams.specs.declared.pairs.Pair.{Pair}
use Rattle.formula_diagrams.specs.declared.pairs.Split.{Split}
use Rattle.formula_diagrams.specs.declared.recall.Known.{Known}
use Rattle.formula_diagrams.specs.Shape.{Arena, count, IsBitIn}
use Rattle.formula_diagrams.specs.Truths.{choice, is_set, holds, Tells}

-- two truths joined
abbrev pub joined : Join → Bool → Bool → Bool
joined Both x y = x && y
joined Either x y = x || y
joined Same x y = choice x y (not y)

-- the truth of a joined pair in a store
abbrev pub met : Arena → Join → List ℕ → Pair → Bool
met a how store p = joined how (holds a store p.left.0) (holds a store p.right.0)

abbrev pub IsPairIn : Arena → Pair → Type 0
IsPairIn a p = (p.left.0 < count a) × (p.right.0 < count a)

-- the number has the truth of the joined pair
abbrev pub Means : Arena → Join → Pair → NodeId → Type 0
Means a how p n = Tells a n (λ store. met a how store p)

-- what is written down is so
pub record IsRight (a : Arena) (k : Known) : Type 0 where
  pub there : IsPairIn a k.pair
  pub means : Means a k.how k.pair k.node

abbrev pub AllRight : Arena → List Known → Type 0
AllRight a ks = All (IsRight a) ks

-- the sum of a pair's numbers, which falls as its sides are taken
abbrev pub sum_of : Pair → ℕ
sum_of p = p.left.0 + p.right.0

-- the answer to a joined pair that needs no look at a node
abbrev pub both_at_once : NodeId → NodeId → Option NodeId
both_at_once l r =
    if l.0 == 0 then Some l else if r.0 == 0 then Some r else if l.0 == 1 then Some r else if r.0 == 1 then Some l else if l.0 == r.0 then Some l else None

abbrev pub either_at_once : NodeId → NodeId → Option NodeId
either_at_once l r =
    if l.0 == 1 then Some l else if r.0 == 1 then Some r else if l.0 == 0 then Some r else if r.0 == 0 then Some l else if l.0 == r.0 then Some l else None

abbrev pub same_at_once : NodeId → NodeId → Option NodeId
same_at_once l r =
    if l.0 == r.0 then Some (record { 0 = 1 }) else if l.0 == 1 then Some r else if r.0 == 1 then Some l else None

abbrev pub at_once : Join → Pair → Option NodeId
at_once Both p = both_at_once p.left p.right
at_once Either p = either_at_once p.left p.right
at_once Same p = same_at_once p.left p.right

-- a pair in two halves: what it is where a bit is 1, and where it is 0
pub record IsSplit (a : Arena) (s : Split) : Type 0 where
  pub top : IsBitIn a.cells s.top
  pub asked : IsPairIn a s.asked
  pub low : IsPairIn a s.low
  pub high : IsPairIn a s.high
  pub told : (how : Join) (store : List ℕ)
      → met a how store s.asked ≡ choice (is_set store s.top) (met a how store s.high) (met a how store s.low)

-- the halves of a pair under the bit of its left node, of its right node, or of both
abbrev pub split_left : Pair → Node → Split
split_left p l = record {
  asked = p;
  top = l.top;
  low = record { left = l.low; right = p.right };
  high = record { left = l.high; right = p.right };
}

abbrev pub split_right : Pair → Node → Split
split_right p r = record {
  asked = p;
  top = r.top;
  low = record { left = p.left; right = r.low };
  high = record { left = p.left; right = r.high };
}

abbrev pub split_both : Pair → Node → Node → Split
split_both p l r = record {
  asked = p;
  top = l.top;
  low = record { left = l.low; right = r.low };
  high = record { left = l.high; right = r.high };
}
