-- The marks of a statement, and the first one that is sought among them.
use Rattle.std.proofs.Common.{◌≡◌, ℕ, ◌+◌, Bool, true, false, List, [], ◌∷◌, ◌++◌, Option, Some, None, ℤ, refl, ap, ◌∙◌}
use Rattle.std.specs.Prelude.{bytes_eq, if◌then◌else◌}
use Rattle.lv_base.specs.declared.kind.Model.{Model}
use Rattle.lv_base.specs.Integers.{converted}
use Rattle.c_run.specs.Run.{choose}
use Rattle.c_run.specs.Loops.{Place, toLabel, toCase, toDefault}
use Rattle.c_typed.specs.Run.{is_this_label, is_default}
use Rattle.typed_range_laws.specs.Ways.{Way}
use Rattle.slot_code.specs.Statements.{Name, aLabel, aCase, aDefault, Mark, moved, labels_alone, label_in, default_in}

module _ (model : Model) (way : Way) where
  abbrev pub is_case : Place → ℤ → Bool
  is_case (toCase k v) w = way.same v (converted k model w)
  is_case _ w = false

  abbrev pub is_mark : Place → Name → Bool
  is_mark p (aLabel l) = is_this_label p l
  is_mark p (aCase v) = is_case p v
  is_mark p aDefault = is_default p

  abbrev pub sought : Place → List Mark → Option ℕ
  sought p [] = None
  sought p (m ∷ ms) = choose (is_mark p m.name) (Some m.place) (sought p ms)

  abbrev pub first_of : Option ℕ → Option ℕ → Option ℕ
  first_of None o = o
  first_of (Some n) o = Some n

  abbrev pub plus : ℕ → Option ℕ → Option ℕ
  plus n None = None
  plus n (Some m) = Some (n + m)

  first_chosen : (b : Bool) (n : ℕ) (o o' : Option ℕ) → choose b (Some n) (first_of o o') ≡ first_of (choose b (Some n) o) o'
  first_chosen true n o o' = refl
  first_chosen false n o o' = refl

  plus_chosen : (b : Bool) (n m : ℕ) (o : Option ℕ) → choose b (Some (n + m)) (plus n o) ≡ plus n (choose b (Some m) o)
  plus_chosen true n m o = refl
  plus_chosen false n m o = refl

  pub sought_both : (p : Place) (xs ys : List Mark) → sought p (xs ++ ys) ≡ first_of (sought p xs) (sought p ys)
  sought_both p [] ys = refl
  sought_both p (m ∷ xs) ys = ap (λ o. choose (is_mark p m.name) (Some m.place) o) (sought_both p xs ys) ∙ first_chosen (is_mark p m.name) m.place (sought p xs) (sought p ys)

  pub sought_moved : (p : Place) (n : ℕ) (ms : List Mark) → sought p (moved n ms) ≡ plus n (sought p ms)
  sought_moved p n [] = refl
  sought_moved p n (m ∷ ms) = ap (λ o. choose (is_mark p m.name) (Some (n + m.place)) o) (sought_moved p n ms) ∙ plus_chosen (is_mark p m.name) n m.place (sought p ms)

  -- labels alone
  kept_label : (l : List ℕ) (m : Mark) (n : Name) (ms : List Mark) (o : Option ℕ) → m.name ≡ n → sought (toLabel l) (labels_alone ms) ≡ o →
      sought (toLabel l) (elim n [ aLabel x ↦ m ∷ labels_alone ms | aCase v ↦ labels_alone ms | aDefault ↦ labels_alone ms ]) ≡ choose (is_mark (toLabel l) n) (Some m.place) o
  kept_label l m (aLabel x) ms o h e = ap (λ r. choose (is_mark (toLabel l) m.name) (Some m.place) r) e ∙ ap (λ y. choose (is_mark (toLabel l) y) (Some m.place) o) h
  kept_label l m (aCase v) ms o h e = e
  kept_label l m aDefault ms o h e = e

  pub labels_sought : (l : List ℕ) (ms : List Mark) → sought (toLabel l) (labels_alone ms) ≡ sought (toLabel l) ms
  labels_sought l [] = refl
  labels_sought l (m ∷ ms) = kept_label l m m.name ms (sought (toLabel l) ms) refl (labels_sought l ms)

  dropped_mark : (p : Place) (m : Mark) (n : Name) (ms : List Mark) → m.name ≡ n → ((x : List ℕ) → is_this_label p x ≡ false) → sought p (labels_alone ms) ≡ None →
      sought p (elim n [ aLabel x ↦ m ∷ labels_alone ms | aCase v ↦ labels_alone ms | aDefault ↦ labels_alone ms ]) ≡ None
  dropped_mark p m (aLabel x) ms e h g = ap (λ y. choose (is_mark p y) (Some m.place) (sought p (labels_alone ms))) e ∙ ap (λ b. choose b (Some m.place) (sought p (labels_alone ms))) (h x) ∙ g
  dropped_mark p m (aCase v) ms e h g = g
  dropped_mark p m aDefault ms e h g = g

  pub no_label : (p : Place) (ms : List Mark) → ((x : List ℕ) → is_this_label p x ≡ false) → sought p (labels_alone ms) ≡ None
  no_label p [] h = refl
  no_label p (m ∷ ms) h = dropped_mark p m m.name ms refl h (no_label p ms h)

  -- the look-ups of the code
  if_chosen : (b : Bool) (n : ℕ) (o o' : Option ℕ) → o ≡ o' → (if b then Some n else o) ≡ choose b (Some n) o'
  if_chosen true n o o' e = refl
  if_chosen false n o o' e = e

  label_found : (l : List ℕ) (n : Name) (place : ℕ) (o o' : Option ℕ) → o ≡ o' → elim n [ aLabel x ↦ if bytes_eq l x then Some place else o | aCase v ↦ o | aDefault ↦ o ] ≡ choose (is_mark (toLabel l) n) (Some place) o'
  label_found l (aLabel x) place o o' e = if_chosen (bytes_eq l x) place o o' e
  label_found l (aCase v) place o o' e = e
  label_found l aDefault place o o' e = e

  pub label_sought : (l : List ℕ) (ms : List Mark) → label_in l ms ≡ sought (toLabel l) ms
  label_sought l [] = refl
  label_sought l (m ∷ ms) = label_found l m.name m.place (label_in l ms) (sought (toLabel l) ms) (label_sought l ms)

  default_found : (n : Name) (place : ℕ) (o o' : Option ℕ) → o ≡ o' → elim n [ aLabel x ↦ o | aCase v ↦ o | aDefault ↦ Some place ] ≡ choose (is_mark toDefault n) (Some place) o'
  default_found (aLabel x) place o o' e = e
  default_found (aCase v) place o o' e = e
  default_found aDefault place o o' e = refl

  pub default_sought : (ms : List Mark) → default_in ms ≡ sought toDefault ms
  default_sought [] = refl
  default_sought (m ∷ ms) = default_found m.name m.place (default_in ms) (sought toDefault ms) (default_sought ms)
