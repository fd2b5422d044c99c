-- Typed trees that break no rule of jumps, effects and calls, with their labels and an order of their functions.
use Rattle.std.specs.Prelude.{◌≡◌, ℕ, ◌+◌, ◌<◌, List, [], ◌∷◌, ◌++◌, length, map}
use Rattle.c_typed.specs.Tree.{Function, Program}
use Rattle.c_typed.specs.Rules.{Jump, labels_of_all, broken}
use Rattle.call_order.specs.Order.{IsOrder, callees}
use Rattle.call_order.specs.Walks.{order_by_walk}
use Rattle.c_rules.specs.declared.label.LabelAt.{LabelAt}

-- those of a function, in their order
abbrev pub labels_at : ℕ → List Jump → List LabelAt
labels_at function ls = map (λ l. record { function = function; name = l.name; at = l.named_at }) ls

-- those of these functions, the first of which has this number
abbrev pub labels_from : ℕ → List Function → List LabelAt
labels_from number [] = []
labels_from number (f ∷ fs) = labels_at number (labels_of_all [] f.body) ++ labels_from (number + 1) fs

pub record IsExamined (program : Program) (labels : List LabelAt) (order : List ℕ) : Type 0 where
  pub good : broken program ≡ []
  pub labels_are : labels ≡ labels_from 0 program.functions
  pub ordered : IsOrder (callees program) order
  pub walked : order ≡ order_by_walk (callees program)
