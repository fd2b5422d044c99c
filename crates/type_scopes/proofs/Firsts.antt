-- The first declaration of a name in the file, where a declaration is added.
use Rattle.std.proofs.Common.{◌≡◌, ℕ, zero, suc, ◌<◌, ◌≤◌, Bool, true, false, cond, not, ◌&&◌, bytes_eq, List, [], ◌∷◌, ◌++◌, Option, None, Some, length, map, find, refl, sym, ◌∙◌, ap, subst, arith, slice_get}
use Rattle.std.specs.Option.{option_map, option_or}
use Rattle.std.proofs.lemmas.Bool.{and_parts}
use Rattle.std.proofs.lemmas.List.{map_push}
use Rattle.std.proofs.lemmas.List.Folds.{find-append}
use Rattle.std.proofs.lemmas.Option.{slice_get-map, slice_get_past}
use Rattle.std.proofs.lemmas.Slice.Eq.{bytes_eq-Decides}
use Rattle.c_meaning.specs.Scope.{is_file, is_tag}
use Rattle.c_meaning.specs.Bindings as b
use Rattle.type_scopes.specs.declared.entries.Entry.{Entry}
use Rattle.type_scopes.specs.declared.linked.Row.{Row}
use Rattle.type_scopes.specs.Seen.{entry_of}
use Rattle.type_scopes.specs.Found.{some_entry}
use Rattle.type_scopes.specs.Walking.{is_in_file}
use Rattle.type_scopes.specs.Chains.{entries_of, IsFirst}

-- ---- Lists

abbrev count_some : {A : Type 0} → Option A → ℕ
count_some None = 0
count_some (Some x) = 1

nothing_is_some : {A : Type 0} (x : A) → ◌≡◌ {A = Option A} None (Some x) → ⊥
nothing_is_some x e =
    let h : 0 ≡ 1 = ap count_some e in
    omega (arith, h)

abbrev or_entry : b.Entry → Option b.Entry → b.Entry
or_entry y None = y
or_entry y (Some z) = z

-- a place that is read is one of the list
read_within : (es : List Entry) (j : ℕ) (z : b.Entry) → some_entry (slice_get es j) ≡ Some z → j < length es
read_within [] j z h = absurd (nothing_is_some z h)
read_within (e ∷ es) zero z h = omega arith
read_within (e ∷ es) (suc j) z h = let l = read_within es j z h in omega (arith, l)

read_more : (es : List Entry) (e : Entry) (j : ℕ) (z : b.Entry) → some_entry (slice_get es j) ≡ Some z → some_entry (slice_get (es ++ e ∷ []) j) ≡ Some z
read_more [] e j z h = absurd (nothing_is_some z h)
read_more (x ∷ es) e zero z h = h
read_more (x ∷ es) e (suc j) z h = read_more es e j z h

read_last : (es : List Entry) (e : Entry) (j : ℕ) → j ≤ length es → None ≡ some_entry (slice_get es j) → some_entry (slice_get (es ++ e ∷ []) j) ≡ Some (entry_of e)
read_last [] e zero l h = refl
read_last [] e (suc j) l h = absurd (none l)
  where
    none : suc j ≤ 0 → ⊥
    none l = omega (arith, l)
read_last (x ∷ es) e zero l h = absurd (nothing_is_some (entry_of x) h)
read_last (x ∷ es) e (suc j) l h = read_last es e j (omega (arith, l)) h

module _ (p : b.Entry → Bool) where
  -- where one passes the test, one is found
  passes : (es : List b.Entry) (k : ℕ) (e : b.Entry) → slice_get es k ≡ Some e → p e ≡ true → (y : b.Entry) × (find p es ≡ Some y)
  passes [] k e h t = absurd (nothing_is_some e h)
  passes (x ∷ es) zero e h t = (x, ap (λ u. cond u (Some x) (find p es)) (ap (λ o. p (or_entry x o)) h ∙ t))
  passes (x ∷ es) (suc k) e h t = by (p x) refl (passes es k e h t)
    where
      by : (u : Bool) → p x ≡ u → (y : b.Entry) × (find p es ≡ Some y) → (y : b.Entry) × (find p (x ∷ es) ≡ Some y)
      by true is r = (x, ap (λ u. cond u (Some x) (find p es)) is)
      by false is r = (r.0, ap (λ u. cond u (Some x) (find p es)) is ∙ r.1)

  find_push : (es : List Entry) (e : Entry) → find p (map entry_of (es ++ e ∷ [])) ≡ option_or (find p (map entry_of es)) (find p (entry_of e ∷ []))
  find_push es e = ap (find p) (map_push entry_of es e) ∙ find-append p (map entry_of es) (entry_of e ∷ [])

  -- what was found is found in a longer list
  found_more : (es : List Entry) (e : Entry) (j : ℕ) (z : b.Entry) → find p (map entry_of es) ≡ Some z → some_entry (slice_get es j) ≡ find p (map entry_of es) → some_entry (slice_get (es ++ e ∷ []) j) ≡ find p (map entry_of (es ++ e ∷ []))
  found_more es e j z f h = read_more es e j z (h ∙ f) ∙ sym (find_push es e ∙ ap (λ o. option_or o (find p (entry_of e ∷ []))) f)

  -- the last one is found where none was, and passes the test
  found_last : (es : List Entry) (e : Entry) (j : ℕ) → j ≤ length es → p (entry_of e) ≡ true → some_entry (slice_get es j) ≡ find p (map entry_of es) → some_entry (slice_get (es ++ e ∷ []) j) ≡ find p (map entry_of (es ++ e ∷ []))
  found_last es e j l t h = by (find p (map entry_of es)) refl
    where
      by : (o : Option b.Entry) → find p (map entry_of es) ≡ o → some_entry (slice_get (es ++ e ∷ []) j) ≡ find p (map entry_of (es ++ e ∷ []))
      by (Some z) f = found_more es e j z f h
      by None f =
          read_last es e j l (sym (h ∙ f))
          ∙ sym (find_push es e ∙ ap (λ o. option_or o (find p (entry_of e ∷ []))) f ∙ ap (λ u. cond u (Some (entry_of e)) None) t)

-- ---- Rows

entries_push : (xs : List Row) (y : Row) → entries_of (xs ++ y ∷ []) ≡ entries_of xs ++ y.entry ∷ []
entries_push xs y = map_push (λ (r : Row). r.entry) xs y

entry_at : (xs : List Row) (k : ℕ) (x : Row) → slice_get xs k ≡ Some x → slice_get (map entry_of (entries_of xs)) k ≡ Some (entry_of x.entry)
entry_at xs k x h = slice_get-map entry_of (entries_of xs) k ∙ ap (option_map entry_of) (slice_get-map (λ (r : Row). r.entry) xs k ∙ ap (option_map (λ (r : Row). r.entry)) h)

module _ (xs : List Row) (y : Row) where
  pub first_more : (k : ℕ) (x : Row) → slice_get xs k ≡ Some x → IsFirst xs x → IsFirst (xs ++ y ∷ []) x
  first_more k x at is t =
      let p = is_in_file x.entry.name.now in
      let r = passes p (map entry_of (entries_of xs)) k (entry_of x.entry) (entry_at xs k x at) t in
      ap (λ es. some_entry (slice_get es x.first)) (entries_push xs y)
      ∙ found_more p (entries_of xs) y.entry x.first r.0 r.1 (is t)
      ∙ sym (ap (λ es. find p (map entry_of es)) (entries_push xs y))

  pub first_last : y.first ≤ length (entries_of xs) → IsFirst xs y → IsFirst (xs ++ y ∷ []) y
  first_last few is t =
      let p = is_in_file y.entry.name.now in
      ap (λ es. some_entry (slice_get es y.first)) (entries_push xs y)
      ∙ found_last p (entries_of xs) y.entry y.first few t (is t)
      ∙ sym (ap (λ es. find p (map entry_of es)) (entries_push xs y))

-- the last of a name knows the first
pub knows_first : (xs : List Row) (k : ℕ) (x : Row) (name : List ℕ) → slice_get xs k ≡ Some x → IsFirst xs x → is_in_file name (entry_of x.entry) ≡ true →
    (x.first < length (entries_of xs)) × (some_entry (slice_get (entries_of xs) x.first) ≡ find (is_in_file name) (map entry_of (entries_of xs)))
knows_first xs k x name at is t =
    let r = passes (is_in_file name) (map entry_of (entries_of xs)) k (entry_of x.entry) (entry_at xs k x at) t in
    (read_within (entries_of xs) x.first r.0 (found ∙ r.1), found)
  where
    named : x.entry.name.now ≡ name
    named =
        (bytes_eq-Decides x.entry.name.now name).0
        (and_parts (not (is_tag (entry_of x.entry).declared.what)) (bytes_eq x.entry.name.now name) (and_parts (is_file (entry_of x.entry).declared.scope) (not (is_tag (entry_of x.entry).declared.what) && bytes_eq x.entry.name.now name) t).1).1

    found : some_entry (slice_get (entries_of xs) x.first) ≡ find (is_in_file name) (map entry_of (entries_of xs))
    found =
        is (subst (λ n. is_in_file n (entry_of x.entry) ≡ true) (sym named) t)
        ∙ ap (λ n. find (is_in_file n) (map entry_of (entries_of xs))) named

pub none_there : (es : List Entry) (j : ℕ) → j ≡ length es → some_entry (slice_get es j) ≡ None
none_there es j e = ap some_entry (slice_get_past es j (omega (arith, e)))
