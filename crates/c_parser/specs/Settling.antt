-- Steps outward from a whole statement.
use Rattle.std.specs.Prelude.{◌≡◌, ℕ, ◌<◌, List, Option, None, Some, vec_len}
use Rattle.c_tree.specs.View.{statement}
use Rattle.parse_machine.specs.Contexts as m
use Rattle.parse_machine.specs.Declarations as d
use Rattle.parse_machine.specs.Statements as sm
use Rattle.parse_stack.specs.View as v
use Rattle.c_parser.specs.declared.settling.Settled.{Settled}
use Rattle.c_parser.specs.declared.settling.Settled.TheVariants as se
use Rattle.c_parser.specs.declared.settling.Outward.{Outward}
use Rattle.c_parser.specs.declared.settling.Outward.TheVariants as ou
use Rattle.c_parser.specs.declared.settling.Elseward.{Elseward}
use Rattle.c_parser.specs.declared.settling.Elseward.TheVariants as el

abbrev pub settled : Settled → List (List ℕ) → sm.Settled
settled (se.Block o) names = sm.inBlock (v.outer o) names
settled (se.Do x s o) names = sm.inDo x (statement s.value) (v.outer o) names

abbrev pub SettlesTo : List (List ℕ) → sm.Settled → Outward → Type 0
SettlesTo names r (ou.More s o) = r ≡ sm.settle names (v.outer o) (statement s.value)
SettlesTo names r (ou.Done s) = r ≡ settled s names

abbrev pub IsShorter : ℕ → Outward → Type 0
IsShorter n (ou.More s o) = vec_len o.frames < n
IsShorter n (ou.Done s) = Unit {0}

abbrev pub OtherwiseTo : List (List ℕ) → ℕ → Option d.Turn → Elseward → Type 0
OtherwiseTo names at r (el.More s o) = r ≡ sm.otherwise names at (v.outer o) (statement s.value)
OtherwiseTo names at r (el.Found o) = r ≡ Some (d.turn (m.Begin (v.outer o)) names)
OtherwiseTo names at r el.Nothing = r ≡ None

abbrev pub IsShorterElse : ℕ → Elseward → Type 0
IsShorterElse n (el.More s o) = vec_len o.frames < n
IsShorterElse n _ = Unit {0}
