-- Steps and values of the typed tree, seen by their parts.
use Rattle.std.proofs.Common.{◌≡◌, ℕ, List, [], ◌∷◌, ◌++◌, Option, refl, ap, ◌∙◌, Vec, Global}
use Rattle.std.specs.Prelude.{Box}
use Rattle.lv_base.specs.declared.kind.Kind.{Kind}
use Rattle.c_typed.specs.declared.tree.Value.{Value, Row_of-Value, end_of-Value, more_of-Value, items-the_row-Value, items_hidden-the_row-Value-0}
use Rattle.c_typed.specs.declared.tree.Value.TheVariants as va
use Rattle.c_typed.specs.declared.tree.Step.{Step, Row_of-Step, end_of-Step, more_of-Step, items-the_row-Step, items_hidden-the_row-Step-0}
use Rattle.c_typed.specs.declared.tree.Step.TheVariants as st
use Rattle.c_typed.specs.Tree as t
use Rattle.c_typed.specs.View.{value, value_row, values_behind, values_of, step, step_row, steps_behind, steps_of, option_value}
use mathlib.Core.Former.{Count}

-- ---- Values

value_items : (n : Count) (r : Row_of-Value n) (vs : t.Vals) → value_row vs r ≡ values_behind vs (items-the_row-Value n r)
value_items n end_of-Value vs = refl
value_items n (more_of-Value v rest) vs = value_items _ rest (t.values_and vs (value v))

abbrev values_row : Value → (n : Count) × Row_of-Value n
values_row (va.Call' _ _ _ _ _ r) = (_, r)
values_row (va.Comma' _ r _ _) = (_, r)
values_row _ = (_, end_of-Value)

pub value_Call : (result : Option Kind) (at bracket f : ℕ) (vs : Vec Value Global) → value (va.Call result at bracket f vs) ≡ t.vCall result at bracket f (values_of vs.items)
value_Call result at bracket f vs =
    let r = values_row (va.Call result at bracket f vs) in
    ap (t.vCall result at bracket f) (value_items r.0 r.1 t.no_values ∙ ap (values_behind t.no_values) (items_hidden-the_row-Value-0 vs))

pub value_Comma : (vs : Vec Value Global) (v : Box Value Global) → value (va.Comma vs v) ≡ t.vComma (values_of vs.items) (value v.value)
value_Comma vs v =
    let r = values_row (va.Comma vs v) in
    ap (λ x. t.vComma x (value v.value)) (value_items r.0 r.1 t.no_values ∙ ap (values_behind t.no_values) (items_hidden-the_row-Value-0 vs))

values_more : (xs : List Value) (x : Value) (vs : t.Vals) → values_behind vs (xs ++ x ∷ []) ≡ t.values_and (values_behind vs xs) (value x)
values_more [] x vs = refl
values_more (y ∷ xs) x vs = values_more xs x (t.values_and vs (value y))

pub values_push : (xs : List Value) (x : Value) → values_of (xs ++ x ∷ []) ≡ t.values_and (values_of xs) (value x)
values_push xs x = values_more xs x t.no_values

-- ---- Steps

step_items : (n : Count) (r : Row_of-Step n) (ss : t.Steps) → step_row ss r ≡ steps_behind ss (items-the_row-Step n r)
step_items n end_of-Step ss = refl
step_items n (more_of-Step s rest) ss = step_items _ rest (t.steps_and ss (step s))

abbrev steps_row : Step → (n : Count) × Row_of-Step n
steps_row (st.Block' _ r) = (_, r)
steps_row (st.For' _ _ r _ _ _ _) = (_, r)
steps_row _ = (_, end_of-Step)

pub step_Block : (ss : Vec Step Global) → step (st.Block ss) ≡ t.pBlock (steps_of ss.items)
step_Block ss =
    let r = steps_row (st.Block ss) in
    ap t.pBlock (step_items r.0 r.1 t.no_steps ∙ ap (steps_behind t.no_steps) (items_hidden-the_row-Step-0 ss))

pub step_For : (at : ℕ) (ss : Vec Step Global) (v w : Option (Box Value Global)) (s : Box Step Global) → step (st.For at ss v w s) ≡ t.pFor at (steps_of ss.items) (option_value v) (option_value w) (step s.value)
step_For at ss v w s =
    let r = steps_row (st.For at ss v w s) in
    ap (λ x. t.pFor at x (option_value v) (option_value w) (step s.value)) (step_items r.0 r.1 t.no_steps ∙ ap (steps_behind t.no_steps) (items_hidden-the_row-Step-0 ss))

steps_more : (xs : List Step) (x : Step) (ss : t.Steps) → steps_behind ss (xs ++ x ∷ []) ≡ t.steps_and (steps_behind ss xs) (step x)
steps_more [] x ss = refl
steps_more (y ∷ xs) x ss = steps_more xs x (t.steps_and ss (step y))

pub steps_push : (xs : List Step) (x : Step) → steps_of (xs ++ x ∷ []) ≡ t.steps_and (steps_of xs) (step x)
steps_push xs x = steps_more xs x t.no_steps
