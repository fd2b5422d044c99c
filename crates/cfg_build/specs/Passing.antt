-- What holds of the code of a program of which graphs are made.
use Rattle.std.specs.Prelude.{ℕ, ◌≡◌, ◌<◌, ◌≤◌, true, List, length, None, Some, slice_get}
use Rattle.bv_term.specs.WellFormed.{IsTable}
use Rattle.c_graph.specs.Shape.{widths_of}
use Rattle.c_graph.specs.Functions.{Flows, AreFlows}
use Rattle.c_typed.specs.Parts.{Parts, tree_of}
use Rattle.c_typed.specs.Run.{main_number}
use Rattle.slot_code.specs.declared.flat.Instruction.{Instruction}
use Rattle.slot_code.specs.declared.flat.Instruction.TheVariants as i
use Rattle.slot_code.specs.Programs.{code_of}
use Rattle.code_layout.specs.Layout.{Lay, slot_cell}
use Rattle.cfg_build.specs.declared.placing.Range.{Range}
use Rattle.cfg_build.specs.Keeping.{keeps}
use Rattle.cfg_build.specs.Fitting.{AreFit, CallsEnter}
use Rattle.cfg_build.specs.Follows.{Begins}
use Rattle.cfg_build.specs.Ranges.{ProgramRanges}
use Rattle.cfg_build.specs.Numbers.{AllLinked}
use Rattle.cfg_build.specs.Graphs.{program_code, program_setting, ProgramFollows}
use Rattle.cfg_build.specs.Sizes.{IsWithin}

-- at each place of the ranges the instruction goes on in its function's code, and fills a slot of its function
abbrev pub PlacesKeep : Parts → List ℕ → List Range → Type 0
PlacesKeep t order ranges =
    (number place : ℕ) (range : Range) (x : Instruction) → slice_get ranges number ≡ Some range → range.entry ≤ place → place < range.end
    → slice_get (program_code t order) place ≡ Some x → keeps range place x ≡ true

-- the call is of a function that begins at the place, below the caller, and returns by a slot that no instruction reads
abbrev pub IsCall : List Range → Lay → Range → (place slot : ℕ) → Type 0
IsCall ranges lay caller place slot = (function : ℕ) × Begins ranges caller function place slot × (slot_cell lay slot ≡ None)

-- each call in the ranges
abbrev pub PlacesCall : Parts → List ℕ → List Range → Type 0
PlacesCall t order ranges =
    (number place at goal slot : ℕ) (range : Range) → slice_get ranges number ≡ Some range → range.entry ≤ place → place < range.end
    → slice_get (program_code t order) place ≡ Some (i.Call at goal slot) → IsCall ranges (program_setting t order).lay range goal slot

-- Each function's code stands in a range of its own, one of them is `main`, each instruction is fit, each call goes to the entry of a
-- function, and each place keeps to its function and calls as it should.
pub record IsPassing (t : Parts) (order : List ℕ) : Type 0 where
  pub ranges : List Range
  pub many : length ranges ≡ length (tree_of t).functions
  pub stand : ProgramRanges t order ranges
  pub linked : AllLinked (code_of (tree_of t) order).links (length (tree_of t).functions)
  pub main : ℕ
  pub is_main : main_number (tree_of t).functions ≡ Some main
  pub fit : AreFit t.model (tree_of t).objects (program_code t order)
  pub enters : CallsEnter (code_of (tree_of t) order).links (program_code t order)
  pub keep : PlacesKeep t order ranges
  pub call : PlacesCall t order ranges

-- Function graphs that follow a program's code, of which no number passes its bound, keep the facts of function graphs. A law.
abbrev pub FollowingMakesFlows : Type 0
FollowingMakesFlows =
    (t : Parts) (order : List ℕ) (p : Flows) → IsWithin t order → ProgramFollows t order p → length p.graphs ≡ length (tree_of t).functions
    → IsTable p.terms → p.terms.cells ≡ widths_of p.cells → AreFlows p
