-- Why no graph is made of a program.
use Rattle.std.specs.Prelude.{ℕ, ◌≡◌, ◌⊎◌, ◌≤◌, length}
use Rattle.lv_base.specs.declared.fail.SourceFail.{SourceFail}
use Rattle.lv_base.specs.declared.fail.SourceFail.TheVariants.{Over, Memory}
use Rattle.c_typed.specs.Parts.{Parts, tree_of}
use Rattle.slot_laws.specs.Laws.{IsOrder}
use Rattle.cfg_build.specs.Graphs.{ProgramFollows, program_code}
use Rattle.cfg_build.specs.Sizes.{IsWithin, TooMuch, graph_nodes}
use Rattle.call_inline.specs.Sizes.{HasFew, TooMany}
use Rattle.source_graphs.specs.Whole.{built_of, own_order}

-- The graphs of its functions have too many cells or nodes; or the one graph in which each call is a copy has too many nodes; or memory
-- runs out.
pub data IsTooBig (t : Parts) (e : SourceFail) : Type 0 where
  parts : IsOrder (tree_of t) (own_order t) → TooMuch t (own_order t) e → IsTooBig t e
  copies : IsOrder (tree_of t) (own_order t) → IsWithin t (own_order t) → ProgramFollows t (own_order t) (built_of t) → TooMany (built_of t) e → IsTooBig t e
  memory : e ≡ Memory → IsTooBig t e

-- None of these passes its limit.
pub record IsWithinLimits (t : Parts) : Type 0 where
  pub cells : length (built_of t).cells ≤ 65536
  pub nodes : graph_nodes (program_code t (own_order t)) (length (tree_of t).functions) ≤ 65536
  pub copies : HasFew (built_of t)

-- Two typed trees in memory that say the same are both within the limits, or none is.
abbrev pub LimitsAreOfTrees : Type 0
LimitsAreOfTrees = (t u : Parts) → tree_of t ≡ tree_of u → IsWithinLimits t → IsWithinLimits u

-- A program within the limits is refused for want of memory alone.
abbrev pub LimitsAreExact : Type 0
LimitsAreExact = (t : Parts) (e : SourceFail) → IsWithinLimits t → IsTooBig t e → e ≡ Memory

-- both are for the same limit, with whatever counts past it
abbrev pub IsSameLimit : SourceFail → SourceFail → Type 0
IsSameLimit e f = (number : ℕ) × ((m : ℕ) × ((n : ℕ) × (e ≡ Over number m) × (f ≡ Over number n)))

-- Two typed trees in memory that say the same are refused for the same limit, want of memory aside.
abbrev pub LimitsAreOne : Type 0
LimitsAreOne = (t u : Parts) (e f : SourceFail) → tree_of t ≡ tree_of u → IsTooBig t e → IsTooBig u f → (e ≡ Memory) ⊎ ((f ≡ Memory) ⊎ IsSameLimit e f)
