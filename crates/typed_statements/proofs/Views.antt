-- The steps of the typed tree, seen by their parts.
pub use Rattle.c_tree.proofs.Views.{statement_Block}
use Rattle.std.proofs.Common.{◌≡◌, ℕ, List, [], ◌∷◌, ◌++◌, Option, refl, ap, ◌∙◌, Vec, Global}
use Rattle.std.specs.Prelude.{Box}
use Rattle.c_typed.specs.declared.tree.Value.{Value}
use Rattle.c_typed.specs.declared.tree.Step.{Step, Row_of-Step, end_of-Step, more_of-Step, items-the_row-Step, items_hidden-the_row-Step-0}
use Rattle.c_typed.specs.declared.tree.Step.TheVariants as st
use Rattle.c_typed.specs.Tree as t
use Rattle.c_typed.specs.View.{value, values_of, step, step_row, steps_behind, steps_of, option_value}
use mathlib.Core.Former.{Count}

row_items : (n : Count) (r : Row_of-Step n) (ss : t.Steps) → step_row ss r ≡ steps_behind ss (items-the_row-Step n r)
row_items n end_of-Step ss = refl
row_items n (more_of-Step s rest) ss = row_items _ rest (t.steps_and ss (step s))

abbrev row_in : Step → (n : Count) × Row_of-Step n
row_in (st.Block' _ r) = (_, r)
row_in (st.For' _ _ r _ _ _ _) = (_, r)
row_in _ = (_, end_of-Step)

pub step_Block : (ss : Vec Step Global) → step (st.Block ss) ≡ t.pBlock (steps_of ss.items)
step_Block ss =
    let r = row_in (st.Block ss) in
    ap t.pBlock (row_items r.0 r.1 t.no_steps ∙ ap (steps_behind t.no_steps) (items_hidden-the_row-Step-0 ss))

pub step_For : (at : ℕ) (ss : Vec Step Global) (v w : Option (Box Value Global)) (s : Box Step Global) → step (st.For at ss v w s) ≡ t.pFor at (steps_of ss.items) (option_value v) (option_value w) (step s.value)
step_For at ss v w s =
    let r = row_in (st.For at ss v w s) in
    ap (λ x. t.pFor at x (option_value v) (option_value w) (step s.value)) (row_items r.0 r.1 t.no_steps ∙ ap (steps_behind t.no_steps) (items_hidden-the_row-Step-0 ss))

push_behind : (xs : List Step) (x : Step) (ss : t.Steps) → steps_behind ss (xs ++ x ∷ []) ≡ t.steps_and (steps_behind ss xs) (step x)
push_behind [] x ss = refl
push_behind (y ∷ xs) x ss = push_behind xs x (t.steps_and ss (step y))

pub steps_push : (xs : List Step) (x : Step) → steps_of (xs ++ x ∷ []) ≡ t.steps_and (steps_of xs) (step x)
steps_push xs x = push_behind xs x t.no_steps

pub values_one : (old xs : List Value) (v : Value) (w : t.Val) → old ≡ [] → value v ≡ w → xs ≡ old ++ v ∷ [] → values_of xs ≡ t.values_and t.no_values w
values_one old xs v w o e n = ap values_of (n ∙ ap (λ ys. ys ++ v ∷ []) o) ∙ ap (t.values_and t.no_values) e
