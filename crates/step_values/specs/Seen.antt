-- Lent values, as the typed tree's.
use Rattle.std.specs.Prelude.{List, map}
use denote.Ref.{Bor}
use Rattle.c_typed.specs.declared.tree.Value.{Value}
use Rattle.c_typed.specs.Tree.{Val}
use Rattle.c_typed.specs.View.{value}

abbrev pub values : List (Bor Value) → List Val
values xs = map (λ x. value x.now) xs
