-- What holds of the flat code of typed programs: its instructions fit their objects, calls go to functions that stand before, and each
-- function's instructions go on within its code and fill its slots.
use Rattle.std.specs.Prelude.{ℕ, ◌≡◌, true, List, length, None, Some, slice_get}
use Rattle.c_typed.specs.Facts.{IsTyped}
use Rattle.c_typed.specs.Parts.{Parts, tree_of}
use Rattle.call_order.specs.Order.{IsOrder, callees}
use Rattle.slot_code.specs.declared.flat.Instruction.{Instruction}
use Rattle.slot_code.specs.declared.flat.Instruction.TheVariants as i
use Rattle.code_layout.specs.Layout.{slot_cell}
use Rattle.cfg_build.specs.Fitting.{AreFit, CallsEnter}
use Rattle.cfg_build.specs.Keeping.{keeps}
use Rattle.cfg_build.specs.Follows.{Begins}
use Rattle.cfg_build.specs.Ranges.{ProgramRanges}
use Rattle.cfg_build.specs.Graphs.{program_code, program_setting}
use Rattle.code_fit_laws.specs.Ranges.{Range, links_of, IsRangeOf, IsAt, program_ranges, function_at}
use Rattle.cfg_build.specs.Numbers.{AllLinked}
use Rattle.cfg_build.specs.Passing.{IsPassing}

-- ---- The laws

-- Constants are of some kind, operations are in promoted kinds, and kinds and counts are those of the objects.
abbrev pub CodeIsFit : Type 0
CodeIsFit = (t : Parts) (order : List ℕ) → IsTyped (tree_of t) → AreFit t.model (tree_of t).objects (program_code t order)

-- Each call goes to the entry of a function.
abbrev pub CallsAreEntries : Type 0
CallsAreEntries = (t : Parts) (order : List ℕ) → CallsEnter (links_of t order) (program_code t order)

-- Each instruction of a function goes on within its code, and fills a slot of the function, but for that by which it returns.
abbrev pub CodeKeeps : Type 0
CodeKeeps =
    (t : Parts) (order : List ℕ) (r : Range) (place : ℕ) (x : Instruction) → IsRangeOf t order r → IsAt (program_code t order) r place x
    → keeps r place x ≡ true

-- a call of the function that begins at a place, which lies below its caller, and by whose slot nothing is read
pub record CallBegins (t : Parts) (order : List ℕ) (ranges : List Range) (caller : Range) (place slot : ℕ) : Type 0 where
  pub function : ℕ
  pub there : function_at place (links_of t order) ≡ Some function
  pub begins : Begins ranges caller function place slot
  pub unread : slot_cell (program_setting t order).lay slot ≡ None

-- Each call is of such a function.
abbrev pub CallsBegin : Type 0
CallsBegin =
    (t : Parts) (order : List ℕ) (ranges : List Range) (r : Range) (place at goal slot : ℕ) → ProgramRanges t order ranges → IsRangeOf t order r
    → IsAt (program_code t order) r place (i.Call at goal slot) → CallBegins t order ranges r goal slot

-- Where each function stands in the order once, each has a link, and a range: its own, by its number.
abbrev pub RangesAreThere : Type 0
RangesAreThere =
    (t : Parts) (order : List ℕ) → IsOrder (callees (tree_of t)) order
    → ProgramRanges t order (program_ranges t order) × (length (program_ranges t order) ≡ length (tree_of t).functions)
    × AllLinked (links_of t order) (length (tree_of t).functions)

-- Each of these ranges is that of a function in the order.
abbrev pub RangesAreOf : Type 0
RangesAreOf =
    (t : Parts) (order : List ℕ) (number : ℕ) (r : Range) → IsOrder (callees (tree_of t)) order → slice_get (program_ranges t order) number ≡ Some r
    → IsRangeOf t order r

-- ---- All of it

-- Graphs are made of the code of a typed program, where each function stands in the order once.
abbrev pub TypedCodePasses : Type 0
TypedCodePasses = (t : Parts) (order : List ℕ) → IsTyped (tree_of t) → IsOrder (callees (tree_of t)) order → IsPassing t order
