-- Formulas along edges: which are true and false, when one with an edge implies another, and chains of them.
use Rattle.std.specs.Prelude.{ℕ, ℤ, ◌==◌, ◌&&◌, ◌≡◌, Bool, true, false, List, [], ◌∷◌, suc, All, drop, length, Option, None, Some, slice_get}
use Rattle.bv_term.specs.declared.term.TermId.{TermId}
use Rattle.bv_term.specs.declared.term.Term.{Term}
use Rattle.bv_term.specs.declared.term.Term.TheVariants.{Constant}
use Rattle.bv_term.specs.WellFormed.{Table}
use Rattle.bv_term.specs.Values.{Holds}
use Rattle.c_graph.specs.declared.graph.EdgeId.{EdgeId}
use Rattle.c_graph.specs.declared.graph.Edge.{Edge}
use Rattle.c_graph.specs.Shape.{Flow, HasWidth, widths_of}
use Rattle.c_graph.specs.Steps.{IsWhole, Leads}
use Rattle.needed_cells.specs.Reads.{OnlyNames, needed_along}

-- a constant term of width 1
abbrev pub is_bit : ℕ → Option Term → Bool
is_bit b None = false
is_bit b (Some (Constant w v)) = w == 1 && v == b
is_bit b (Some _) = false

abbrev pub is_true_term : Table → TermId → Bool
is_true_term table t = is_bit 1 (slice_get table.terms t.0)

abbrev pub is_false_term : Table → TermId → Bool
is_false_term table t = is_bit 0 (slice_get table.terms t.0)

abbrev pub begins_true : Table → List TermId → Bool
begins_true table [] = false
begins_true table (f ∷ fs) = is_true_term table f

abbrev pub ends_false : Table → List TermId → Bool
ends_false table [] = false
ends_false table (f ∷ []) = is_false_term table f
ends_false table (f ∷ h ∷ fs) = ends_false table (h ∷ fs)

-- one formula with an edge implies another
abbrev pub EdgeImplies : Flow → Table → EdgeId → TermId → TermId → Type 0
EdgeImplies g table e f h =
    (edge : Edge) (store : List ℕ) (draws : List ℤ) (after : List ℕ)
    → slice_get g.edges e.0 ≡ Some edge → IsWhole (widths_of g.cells) store → Holds table store f
    → Leads g.terms edge store draws after → Holds table after h

-- each formula with the edge of its number implies the next
abbrev pub AreSteps : Flow → Table → List EdgeId → List TermId → Type 0
AreSteps g table es fs =
    (k : ℕ) (e : EdgeId) (f h : TermId) → slice_get es k ≡ Some e → slice_get fs k ≡ Some f → slice_get fs (suc k) ≡ Some h
    → EdgeImplies g table e f h

-- each formula names only cells that the edges from its number on read before they set them
abbrev pub NameRest : Flow → Table → List EdgeId → List TermId → Type 0
NameRest g table es fs = (k : ℕ) (f : TermId) → slice_get fs k ≡ Some f → OnlyNames table f (needed_along g (drop k es))

-- a chain of formulas along edges: one before each edge and one behind the last, each one bit wide, from true to false, each with its
-- edge implies the next, and each names only what the rest of the edges needs
pub record AreChained (g : Flow) (table : Table) (es : List EdgeId) (fs : List TermId) : Type 0 where
  pub count : length fs ≡ suc (length es)
  pub bits : All (λ t. HasWidth table t 1) fs
  pub first : begins_true table fs ≡ true
  pub last : ends_false table fs ≡ true
  pub steps : AreSteps g table es fs
  pub names : NameRest g table es fs
