-- The values that an object has before main: so many as it has elements, each of its kind.
use Rattle.std.proofs.Common.{◌≡◌, ℕ, zero, suc, ◌<◌, ◌≤◌, ◌⊎◌, inl, inr, refl, sym, ◌∙◌, subst, List, [], ◌∷◌, length, replicate, Some, slice_get, slice_index_or, ℤ, pos}
use Rattle.std.proofs.lemmas.Bool.{cases_lt}
use Rattle.std.proofs.lemmas.List.{get_or_past, length-replicate}
use Rattle.lv_base.specs.declared.kind.Model.{Model}
use Rattle.lv_base.specs.Integers.{InRange}
use Rattle.c_typed.specs.declared.tree.Object.{Object}
use Rattle.c_typed.specs.declared.tree.Owner.{Owner}
use Rattle.c_typed.specs.declared.tree.Owner.TheVariants.{Static, Local}
use Rattle.c_typed.specs.Tree as t
use Rattle.c_typed.specs.Facts.{ObjectFits, FirstFits}
use Rattle.c_typed.specs.Run.{size_of, start_values}
use Rattle.c_typed.specs.View.{object_of, owner_of}
use Rattle.code_layout.specs.Layout.{elements_of}
use Rattle.cfg_build.specs.Graphs.{value_in, first_in, first_value}
use Rattle.code_move_laws.proofs.Elements.{size_is}
use Rattle.code_start_laws.proofs.Zeros.{zero-at, zero-range}

-- ---- By the owner

abbrev values_by : t.Owner → t.Object → List ℤ
values_by w o = elim w [ t.static ↦ o.first | t.local f ↦ replicate (size_of (Some o)) (pos 0) ]

length-by : (model : Model) (objects : List t.Object) (functions : List t.Function) (o : t.Object) (w : t.Owner) → FirstFits model objects functions o w → length (values_by w o) ≡ size_of (Some o)
length-by model objects functions o t.static h = h.0
length-by model objects functions o (t.local f) h = length-replicate (size_of (Some o)) (pos 0)

range-by : (model : Model) (objects : List t.Object) (functions : List t.Function) (o : t.Object) (w : t.Owner) → FirstFits model objects functions o w → (n : ℕ) → InRange o.kind model (slice_index_or (values_by w o) n (pos 0))
range-by model objects functions o t.static h n = go (cases_lt n (length o.first))
  where
    go : (n < length o.first) ⊎ (length o.first ≤ n) → InRange o.kind model (slice_index_or o.first n (pos 0))
    go (inl lt) = h.1 n (pos 0) lt
    go (inr le) = subst (InRange o.kind model) (sym (get_or_past o.first n (pos 0) le)) (zero-range o.kind model)
range-by model objects functions o (t.local f) h n = subst (InRange o.kind model) (sym (zero-at (pos 0) (size_of (Some o)) n)) (zero-range o.kind model)

value-in : (vs : List ℤ) (n : ℕ) → value_in (slice_get vs n) ≡ slice_index_or vs n (pos 0)
value-in [] n = refl
value-in (v ∷ vs) zero = refl
value-in (v ∷ vs) (suc n) = value-in vs n

first-by : (o : Object) (w : Owner) (n : ℕ) → first_in w o.first.items n ≡ slice_index_or (values_by (owner_of w) (object_of o)) n (pos 0)
first-by o Static n = value-in o.first.items n
first-by o (Local f) n = sym (zero-at (pos 0) (size_of (Some (object_of o))) n)

-- ---- Of an object

abbrev pub values_of : Object → List ℤ
values_of o = start_values (object_of o)

pub first-is : (o : Object) (n : ℕ) → first_value o n ≡ slice_index_or (values_of o) n (pos 0)
first-is o n = first-by o o.owner n

module _ (model : Model) (objects : List t.Object) (functions : List t.Function) (o : Object) (fits : ObjectFits model objects functions (object_of o)) where
  pub length-values : length (values_of o) ≡ elements_of o
  length-values = length-by model objects functions (object_of o) (owner_of o.owner) fits ∙ size_is o

  pub range-values : (n : ℕ) → InRange o.kind model (slice_index_or (values_of o) n (pos 0))
  range-values n = range-by model objects functions (object_of o) (owner_of o.owner) fits n
