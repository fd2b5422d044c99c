-- Formulas as terms of a table.
use Rattle.std.specs.Prelude.{ℕ, ◌+◌, ◌-◌, ◌<◌, ◌≤◌, ◌≡◌, Bool, true, false, List, length, slice_index, slice_index_or, slice_get, slice_set, Some, ◌==◌, nat_lt, if◌then◌else◌}
use Rattle.bv_term.specs.declared.term.TermId.{TermId}
use Rattle.bv_term.specs.declared.term.Term.TheVariants.{Constant, Cell, And, Or, Not, Bit}
use Rattle.bv_term.specs.Numbers.{truth}
use Rattle.bv_term.specs.WellFormed.{Table, IsTable, widths}
use Rattle.bv_term.specs.Values.{value}
use Rattle.formula_diagrams.specs.declared.items.NodeId.{NodeId}
use Rattle.formula_diagrams.specs.declared.items.Node.{Node}
use Rattle.formula_diagrams.specs.declared.writing.Side.{Side}
use Rattle.formula_diagrams.specs.declared.writing.Side.TheVariants.{Never, Always, Written}
use Rattle.formula_diagrams.specs.Shape.{Arena}
use Rattle.formula_diagrams.specs.Truths.{holds}

-- the term is made of constants and of bits of these cells by `~`, `&` and `o`
pub data IsPlain (table : Table) (named : ℕ → Type 0) : TermId → Type 0 where
  is_constant : {t : TermId} (w v : ℕ) → slice_get table.terms t.0 ≡ Some (Constant w v) → IsPlain table named t
  is_cell : {t : TermId} (c : ℕ) → named c → slice_get table.terms t.0 ≡ Some (Cell c) → IsPlain table named t
  is_bit : {t : TermId} (k : ℕ) (i : TermId) → IsPlain table named i → slice_get table.terms t.0 ≡ Some (Bit k i) → IsPlain table named t
  is_not : {t : TermId} (i : TermId) → IsPlain table named i → slice_get table.terms t.0 ≡ Some (Not i) → IsPlain table named t
  is_and : {t : TermId} (i j : TermId) → IsPlain table named i → IsPlain table named j → slice_get table.terms t.0 ≡ Some (And i j) → IsPlain table named t
  is_or : {t : TermId} (i j : TermId) → IsPlain table named i → IsPlain table named j → slice_get table.terms t.0 ≡ Some (Or i j) → IsPlain table named t

abbrev pub AnyCell : ℕ → Type 0
AnyCell c = Unit {0}

-- the term is there, one bit wide, and made of constants and of bits of cells by `~`, `&` and `o`
pub record IsOneBit (table : Table) (t : TermId) : Type 0 where
  pub there : t.0 < length table.terms
  pub width : slice_index (widths table) t.0 ≡ 1
  pub plain : IsPlain table AnyCell t

-- the term is one bit, and its value in each store is this truth
pub record IsTruth (table : Table) (t : TermId) (f : List ℕ → Bool) : Type 0 where
  pub bit : IsOneBit table t
  pub told : (store : List ℕ) → value table store t ≡ truth (f store)

-- a side of a node is an end, or a term of one bit
abbrev pub IsSide : Table → Side → Type 0
IsSide table Never = Unit {0}
IsSide table Always = Unit {0}
IsSide table (Written t) = IsOneBit table t

-- it has this truth in each store
abbrev pub SideTells : Table → Side → (List ℕ → Bool) → Type 0
SideTells table Never f = (store : List ℕ) → f store ≡ false
SideTells table Always f = (store : List ℕ) → f store ≡ true
SideTells table (Written t) f = IsTruth table t f

-- whether a number is marked
abbrev pub is_marked : List Bool → ℕ → Bool
is_marked marks n = slice_index_or marks n false

-- a side of a marked node is an end, or marked
abbrev pub IsNeeded : List Bool → NodeId → Type 0
IsNeeded marks n = 2 ≤ n.0 → is_marked marks (n.0 - 2) ≡ true

-- the sides of each marked node, from place n on, are needed
abbrev pub IsClosed : List Node → List Bool → ℕ → Type 0
IsClosed nodes marks n =
    (k : ℕ) (node : Node) → n ≤ k → slice_get nodes k ≡ Some node → is_marked marks k ≡ true
    → IsNeeded marks node.low × IsNeeded marks node.high

-- the sides of each node are below it
abbrev pub AreBelow : List Node → Type 0
AreBelow nodes = (k : ℕ) (node : Node) → slice_get nodes k ≡ Some node → (node.low.0 < k + 2) × (node.high.0 < k + 2)

-- the marks after a number is marked; ends have no mark
abbrev pub marked : List Bool → NodeId → List Bool
marked marks n = if nat_lt n.0 2 then marks else slice_set marks (n.0 - 2) true

-- each marked node that is written has a term of its truth
abbrev pub AreWritten : Arena → Table → List Bool → List TermId → Type 0
AreWritten a table marks ts =
    (k : ℕ) (d : TermId) → k < length ts → is_marked marks k ≡ true
    → IsTruth table (slice_index_or ts k d) (λ store. holds a store (k + 2))

-- the side of a number, the nodes before being written as these terms
abbrev pub side_of : List TermId → NodeId → Side
side_of ts n =
    if n.0 == 0 then Never else if n.0 == 1 then Always else Written (slice_index_or ts (n.0 - 2) (record { 0 = 0 }))
