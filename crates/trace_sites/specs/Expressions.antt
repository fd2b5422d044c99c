-- The sites in expressions, in the order in which their instructions stand in flat code, behind those that were found before.
use Rattle.std.specs.Prelude.{ℕ, Bool, true, false, List, [], ◌∷◌, ◌++◌, Option, Some, None, if◌then◌else◌}
use Rattle.c_tree.specs.declared.symbol.BinaryOp.{BinaryOp}
use Rattle.c_tree.specs.declared.symbol.BinaryOp.TheVariants as op
use Rattle.c_tree.specs.declared.symbol.AssignOp.{AssignOp}
use Rattle.c_tree.specs.declared.symbol.AssignOp.TheVariants as assign
use Rattle.c_tree.specs.declared.tree.PrefixOp.TheVariants as prefix
use Rattle.c_tree.specs.Tree.{Ex, eName, eNumber, eLetter, eParen, eCall, eIndex, ePostfix, ePrefix, eSizeof, eCast, eBinary, eCond, eAssign, eComma, Parts, no_parts, parts_and}
use Rattle.c_meaning.specs.Known.{Known, draws, known_of}
use Rattle.c_meaning.specs.Tokens.{first_of}
use Rattle.trace_sites.specs.declared.site.Site.{Site}
use Rattle.trace_sites.specs.declared.site.Part.{Part}
use Rattle.trace_sites.specs.declared.site.Part.TheVariants.{Draw, Decision, Assignment}

-- one more site
abbrev pub with_site : List Site → Part → ℕ → ℕ → List Site
with_site found part start end = found ++ (record { part = part; from = start; to = end } ∷ [])

-- a function without a body that draws a value
abbrev pub is_draw : Option Known → Bool
is_draw (Some (draws kind)) = true
is_draw _ = false

abbrev pub drawn_behind : List Site → Bool → ℕ → List Site
drawn_behind found is at = if is then with_site found Draw at at else found

-- a called function that draws a value: its name
abbrev pub draw_behind : List Site → Ex → List Site
draw_behind found (eName name at) = drawn_behind found (is_draw (known_of name)) at
draw_behind found _ = found

-- a left operand that decides whether the right one is evaluated: its bytes, in front of its operator
abbrev pub left_behind : List Site → Ex → BinaryOp → ℕ → List Site
left_behind found left op.AndAlso at = with_site found Decision (first_of left) at
left_behind found left op.OrElse at = with_site found Decision (first_of left) at
left_behind found left _ at = found

-- an assignment without an operation: its `=`
abbrev pub assignment_behind : List Site → AssignOp → ℕ → List Site
assignment_behind found assign.Plain at = with_site found Assignment at at
assignment_behind found _ at = found

-- the operand of `sizeof` is not evaluated and has none, nor have an array's name and a called name
abbrev mutual
  pub expression_behind : List Site → Ex → List Site
  expression_behind found (eName name at) = found
  expression_behind found (eNumber value form at) = found
  expression_behind found (eLetter value at) = found
  expression_behind found (eParen left e right) = expression_behind found e
  expression_behind found (eCall called left parts right) = draw_behind (parts_behind found parts) called
  expression_behind found (eIndex array left index right) = expression_behind found index
  expression_behind found (ePostfix e by at) = expression_behind found e
  expression_behind found (ePrefix prefix.Sizeof at e) = found
  expression_behind found (ePrefix o at e) = expression_behind found e
  expression_behind found (eSizeof at left words right) = found
  expression_behind found (eCast left words right e) = expression_behind found e
  expression_behind found (eBinary left o at right) = expression_behind (left_behind (expression_behind found left) left o at) right
  expression_behind found (eCond test at first colon second) =
      expression_behind (expression_behind (with_site (expression_behind found test) Decision (first_of test) at) first) second
  expression_behind found (eAssign target o at value) = assignment_behind (expression_behind (expression_behind found target) value) o at
  expression_behind found (eComma parts) = parts_behind found parts

  pub parts_behind : List Site → Parts → List Site
  parts_behind found no_parts = found
  parts_behind found (parts_and parts comma e) = expression_behind (parts_behind found parts) e

abbrev pub option_behind : List Site → Option Ex → List Site
option_behind found None = found
option_behind found (Some e) = expression_behind found e
