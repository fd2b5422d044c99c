-- The bits of a cut's cells, and the formulas of a path's cuts.
use Rattle.std.specs.Prelude.{ℕ, ◌<◌, ◌≡◌, suc, List, ◌++◌, All, length, Some, slice_get}
use Rattle.bv_term.specs.declared.term.TermId.{TermId}
use Rattle.bv_term.specs.declared.term.Term.TheVariants.{Constant}
use Rattle.bv_term.specs.WellFormed.{Table}
use Rattle.c_graph.specs.Shape.{HasWidth}
use Rattle.formula_diagrams.specs.Shape.{IsBitIn}
use Rattle.interpolants.specs.declared.items.Placed.{Placed}
use Rattle.interpolants.specs.declared.placing.CutBits.{CutBits}

-- the bit is one of a cell's
abbrev pub IsPlaced : List ℕ → Placed → Type 0
IsPlaced cells p = IsBitIn cells p.bit

-- all are bits of cells
pub record AreCutBits (cells : List ℕ) (b : CutBits) : Type 0 where
  pub bits : All (IsPlaced cells) b.bits.items
  pub ones : All (λ t. IsPlaced cells t.one) b.twins.items
  pub others : All (λ t. IsPlaced cells t.other) b.twins.items

-- the term is this constant of one bit
abbrev pub IsEnd : Table → ℕ → TermId → Type 0
IsEnd table value t = slice_get table.terms t.0 ≡ Some (Constant 1 value)

-- the second list is the first with n terms of one bit at its end
pub record Adds (table : Table) (n : ℕ) (old new : List TermId) : Type 0 where
  pub more : List TermId
  pub parts : new ≡ old ++ more
  pub count : length more ≡ n
  pub bits : All (λ t. HasWidth table t 1) more

-- the formulas of the cuts of a path with so many steps: one for each cut, each one bit wide, the first the term true, and the last,
-- where there is a step, the term false
pub record AreFormulas (table : Table) (steps : ℕ) (fs : List TermId) : Type 0 where
  pub count : length fs ≡ suc steps
  pub bits : All (λ t. HasWidth table t 1) fs
  pub first : (t : TermId) → slice_get fs 0 ≡ Some t → IsEnd table 1 t
  pub last : (t : TermId) → 0 < steps → slice_get fs steps ≡ Some t → IsEnd table 0 t
