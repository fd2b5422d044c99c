-- The nodes of the typed tree, seen by their parts.
pub use Rattle.c_tree.proofs.Views.{expr_Call, expr_Comma, expr_Cast, expr_SizeofType}
use Rattle.std.proofs.Common.{◌≡◌, ℕ, List, [], ◌∷◌, ◌++◌, Option, refl, ap, ◌∙◌, Vec, Global}
use Rattle.std.specs.Prelude.{Box}
use Rattle.lv_base.specs.declared.kind.Kind.{Kind}
use Rattle.c_typed.specs.declared.tree.Value.{Value, Row_of-Value, end_of-Value, more_of-Value, items-the_row-Value, items_hidden-the_row-Value-0}
use Rattle.c_typed.specs.declared.tree.Value.TheVariants as va
use Rattle.c_typed.specs.Tree as t
use Rattle.c_typed.specs.View.{value, value_row, values_behind, values_of}
use mathlib.Core.Former.{Count}

row_items : (n : Count) (r : Row_of-Value n) (vs : t.Vals) → value_row vs r ≡ values_behind vs (items-the_row-Value n r)
row_items n end_of-Value vs = refl
row_items n (more_of-Value v rest) vs = row_items _ rest (t.values_and vs (value v))

abbrev row_in : Value → (n : Count) × Row_of-Value n
row_in (va.Call' _ _ _ _ _ r) = (_, r)
row_in (va.Comma' _ r _ _) = (_, r)
row_in _ = (_, end_of-Value)

pub value_Call : (result : Option Kind) (at bracket f : ℕ) (vs : Vec Value Global) → value (va.Call result at bracket f vs) ≡ t.vCall result at bracket f (values_of vs.items)
value_Call result at bracket f vs =
    let r = row_in (va.Call result at bracket f vs) in
    ap (t.vCall result at bracket f) (row_items r.0 r.1 t.no_values ∙ ap (values_behind t.no_values) (items_hidden-the_row-Value-0 vs))

pub value_Comma : (vs : Vec Value Global) (v : Box Value Global) → value (va.Comma vs v) ≡ t.vComma (values_of vs.items) (value v.value)
value_Comma vs v =
    let r = row_in (va.Comma vs v) in
    ap (λ x. t.vComma x (value v.value)) (row_items r.0 r.1 t.no_values ∙ ap (values_behind t.no_values) (items_hidden-the_row-Value-0 vs))

push_behind : (xs : List Value) (x : Value) (vs : t.Vals) → values_behind vs (xs ++ x ∷ []) ≡ t.values_and (values_behind vs xs) (value x)
push_behind [] x vs = refl
push_behind (y ∷ xs) x vs = push_behind xs x (t.values_and vs (value y))

pub values_push : (xs : List Value) (x : Value) → values_of (xs ++ x ∷ []) ≡ t.values_and (values_of xs) (value x)
values_push xs x = push_behind xs x t.no_values
