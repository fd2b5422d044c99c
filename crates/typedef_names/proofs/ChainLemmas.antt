-- A name is found on the way from the last of its bucket.
use Rattle.std.proofs.Common.{◌≡◌, ℕ, zero, suc, ◌<◌, ◌≤◌, ◌-◌, List, [], ◌∷◌, ◌++◌, Option, None, Some, Bool, true, false, cond, ◌||◌, nat_eq, length, take, set, get_or, refl, sym, ◌∙◌, ap, subst, arith, bytes_eq, slice_get, inl, inr, eq-eqb}
use Rattle.std.proofs.lemmas.Bool.{cases_eq, cases_lt, cases_Bool, eqb-true, eqb-false, ne_eqb}
use Rattle.std.proofs.lemmas.List.{map-append, take_all, length-append, length-set, get_or-set_same, get_or-set_other}
use Rattle.std.proofs.lemmas.List.Folds.{list_any-append}
use Rattle.std.proofs.lemmas.Option.{slice_get_within}
use Rattle.std.proofs.lemmas.Slice.Eq.{bytes_eq-Decides}
use Rattle.c_tree.specs.Shape.{has}
use Rattle.typedef_names.specs.declared.names.Entry.{Entry}
use Rattle.typedef_names.specs.Buckets.{bucket}
use Rattle.typedef_names.specs.Chains.{names_of, is_in, newest, IsKept}

-- lists

some_at : (es : List Entry) (k : ℕ) → k < length es → (e : Entry) × (slice_get es k ≡ Some e)
some_at [] k h = absurd (none h)
  where
    none : k < 0 → ⊥
    none l = omega (arith, l)
some_at (e ∷ es) zero h = (e, refl)
some_at (e ∷ es) (suc k) h = some_at es k (omega (arith, h))

appended : (es : List Entry) (e : Entry) (k : ℕ) → k < length es → slice_get (es ++ e ∷ []) k ≡ slice_get es k
appended [] e k h = absurd (none h)
  where
    none : k < 0 → ⊥
    none l = omega (arith, l)
appended (x ∷ es) e zero h = refl
appended (x ∷ es) e (suc k) h = appended es e k (omega (arith, h))

last : (es : List Entry) (e : Entry) → slice_get (es ++ e ∷ []) (length es) ≡ Some e
last [] e = refl
last (x ∷ es) e = last es e

nothing : (k : ℕ) (e : Entry) → slice_get [] k ≡ Some e → ⊥
nothing k e h = less k (slice_get_within [] k e h)
  where
    less : (k : ℕ) → k < 0 → ⊥
    less k l = omega (arith, l)

taken : (es : List Entry) (e : Entry) (k : ℕ) → slice_get es k ≡ Some e → take (suc k) es ≡ take k es ++ e ∷ []
taken [] e k h = absurd (nothing k e h)
taken (x ∷ es) e zero h = ap (λ o. first o) h
  where
    first : Option Entry → List Entry
    first None = []
    first (Some y) = y ∷ []
taken (x ∷ es) e (suc k) h = ap (λ ys. x ∷ ys) (taken es e k h)

-- the newest of a bucket

pub newest_is_in : (b : ℕ) (es : List Entry) (k j : ℕ) → newest b es k ≡ suc j → (is_in b (slice_get es j) ≡ true) × (j < k)
newest_is_in b es zero j h = absurd (never h)
  where
    never : 0 ≡ suc j → ⊥
    never e = omega (arith, e)
newest_is_in b es (suc k) j h = by (newest_is_in b es k j) (is_in b (slice_get es k)) refl h
  where
    by : (newest b es k ≡ suc j → (is_in b (slice_get es j) ≡ true) × (j < k)) → (t : Bool) → is_in b (slice_get es k) ≡ t → cond t (suc k) (newest b es k) ≡ suc j → (is_in b (slice_get es j) ≡ true) × (j < suc k)
    by less true is e = let same : k ≡ j = omega (arith, e) in (subst (λ i. is_in b (slice_get es i) ≡ true) same is, omega (arith, same))
    by less false is e = let ih = less e in (ih.0, omega (arith, ih.1))

newest_append : (b : ℕ) (es : List Entry) (e : Entry) (k : ℕ) → k ≤ length es → newest b (es ++ e ∷ []) k ≡ newest b es k
newest_append b es e zero h = refl
newest_append b es e (suc k) h =
    ap (λ o. cond (is_in b o) (suc k) (newest b (es ++ e ∷ []) k)) (appended es e k (omega (arith, h)))
    ∙ ap (λ n. cond (is_in b (slice_get es k)) (suc k) n) (newest_append b es e k (omega (arith, h)))

newest_more : (b : ℕ) (es : List Entry) (e : Entry) → newest b (es ++ e ∷ []) (length (es ++ e ∷ [])) ≡ cond (nat_eq (bucket e.name) b) (suc (length es)) (newest b es (length es))
newest_more b es e =
    let l : length (es ++ e ∷ []) ≡ suc (length es) = let a = length-append es (e ∷ []) in omega (arith, a) in
    ap (λ n. newest b (es ++ e ∷ []) n) l
    ∙ ap (λ o. cond (is_in b o) (suc (length es)) (newest b (es ++ e ∷ []) (length es))) (last es e)
    ∙ ap (λ n. cond (nat_eq (bucket e.name) b) (suc (length es)) n) (newest_append b es e (length es) (omega arith))

-- the names among the first so many are those up to the newest of the bucket, for a name of the bucket

or_false : (t : Bool) → t || false ≡ t
or_false true = refl
or_false false = refl

has_more : (es : List Entry) (e : Entry) (n : List ℕ) → has (names_of (es ++ e ∷ [])) n ≡ has (names_of es) n || bytes_eq e.name n
has_more es e n =
    ap (λ ms. has ms n) (map-append (λ (x : Entry). x.name) es (e ∷ []))
    ∙ list_any-append (λ m. bytes_eq m n) (names_of es) (e.name ∷ [])
    ∙ ap (λ t. has (names_of es) n || t) (or_false (bytes_eq e.name n))

or_true : (t : Bool) → t || true ≡ true
or_true true = refl
or_true false = refl

has_taken : (es : List Entry) (e : Entry) (n : List ℕ) (k : ℕ) → slice_get es k ≡ Some e → has (names_of (take (suc k) es)) n ≡ has (names_of (take k es)) n || bytes_eq e.name n
has_taken es e n k h = ap (λ xs. has (names_of xs) n) (taken es e k h) ∙ has_more (take k es) e n

-- another bucket, another name
other_name : (m n : List ℕ) → nat_eq (bucket m) (bucket n) ≡ false → bytes_eq m n ≡ false
other_name m n h = elim (cases_Bool (bytes_eq m n)) [
  | inl is ↦ absurd (eqb-false (bucket m) (bucket n) h (ap bucket ((bytes_eq-Decides m n).0 is)))
  | inr is ↦ is
]

pub found_among : (n : List ℕ) (es : List Entry) (k : ℕ) → k ≤ length es → has (names_of (take k es)) n ≡ has (names_of (take (newest (bucket n) es k) es)) n
found_among n es zero h = refl
found_among n es (suc k) h =
    let at : (e : Entry) × (slice_get es k ≡ Some e) = some_at es k (omega (arith, h)) in
    subst (λ o. has (names_of (take (suc k) es)) n ≡ has (names_of (take (cond (is_in (bucket n) o) (suc k) (newest (bucket n) es k)) es)) n) (sym at.1)
    (by (found_among n es k (omega (arith, h))) at.0 at.1 (nat_eq (bucket at.0.name) (bucket n)) refl)
  where
    by : has (names_of (take k es)) n ≡ has (names_of (take (newest (bucket n) es k) es)) n → (e : Entry) → slice_get es k ≡ Some e → (t : Bool) → nat_eq (bucket e.name) (bucket n) ≡ t → has (names_of (take (suc k) es)) n ≡ has (names_of (take (cond t (suc k) (newest (bucket n) es k)) es)) n
    by less e g true is = refl
    by less e g false is =
        has_taken es e n k g
        ∙ ap (λ t. has (names_of (take k es)) n || t) (other_name e.name n is)
        ∙ or_false (has (names_of (take k es)) n)
        ∙ less

-- on the way: some of the names are left, and this is the newest of them
pub record IsOnWay (n : List ℕ) (es : List Entry) (left : ℕ) : Type 0 where
  pub most : ℕ
  pub within : most ≤ length es
  pub is : left ≡ newest (bucket n) es most
  pub rest : has (names_of es) n ≡ has (names_of (take most es)) n

pub starts : (n : List ℕ) (es : List Entry) (table : List ℕ) (b left : ℕ) → IsKept es table → b ≡ bucket n → b < 65521 → left ≡ get_or table b 0 → IsOnWay n es left
starts n es table b left kept is below head = record {
  most = length es;
  within = omega arith;
  is = head ∙ kept.heads b below ∙ ap (λ c. newest c es (length es)) is;
  rest = ap (λ xs. has (names_of xs) n) (sym (take_all (length es) es (omega arith)));
}

left_of : (n : List ℕ) (es : List Entry) (left : ℕ) → IsOnWay n es left → has (names_of es) n ≡ has (names_of (take left es)) n
left_of n es left way = way.rest ∙ found_among n es way.most way.within ∙ ap (λ k. has (names_of (take k es)) n) (sym way.is)

within : (n : List ℕ) (es : List Entry) (k : ℕ) → IsOnWay n es (suc k) → k < length es
within n es k way = let w = newest_is_in (bucket n) es way.most k (sym way.is) in omega (arith, w.1, way.within)

pub ends : (n : List ℕ) (es : List Entry) (left : ℕ) → IsOnWay n es left → left ≡ 0 → has (names_of es) n ≡ false
ends n es left way none = left_of n es left way ∙ ap (λ k. has (names_of (take k es)) n) none

meets_at : (n : List ℕ) (es : List Entry) (e : Entry) (k : ℕ) → IsOnWay n es (suc k) → slice_get es k ≡ Some e → bytes_eq e.name n ≡ true → has (names_of es) n ≡ true
meets_at n es e k way at same =
    left_of n es (suc k) way ∙ has_taken es e n k at ∙ ap (λ t. has (names_of (take k es)) n || t) same ∙ or_true (has (names_of (take k es)) n)

goes_from : (n : List ℕ) (es : List Entry) (table : List ℕ) (e : Entry) (k : ℕ) → IsKept es table → IsOnWay n es (suc k) → slice_get es k ≡ Some e → bytes_eq e.name n ≡ false → IsOnWay n es e.older
goes_from n es table e k kept way at other = record {
  most = k;
  within = let w = within n es k way in omega (arith, w);
  is = kept.linked k e at ∙ ap (λ b. newest b es k) (eqb-true (bucket e.name) (bucket n) (same (newest_is_in (bucket n) es way.most k (sym way.is)).0));
  rest =
      left_of n es (suc k) way ∙ has_taken es e n k at
      ∙ ap (λ t. has (names_of (take k es)) n || t) other
      ∙ or_false (has (names_of (take k es)) n);
}
  where
    same : is_in (bucket n) (slice_get es k) ≡ true → nat_eq (bucket e.name) (bucket n) ≡ true
    same h = subst (λ o. is_in (bucket n) o ≡ true) at h

-- the same with the place that the loop reads

before : (left : ℕ) → 0 < left → left ≡ suc (left - 1)
before left some = omega (arith, some)

pub within_way : (n : List ℕ) (es : List Entry) (left : ℕ) → IsOnWay n es left → 0 < left → left - 1 < length es
within_way n es left way some = within n es (left - 1) (subst (IsOnWay n es) (before left some) way)

pub meets : (n : List ℕ) (es : List Entry) (e : Entry) (left : ℕ) → IsOnWay n es left → 0 < left → slice_get es (left - 1) ≡ Some e → bytes_eq e.name n ≡ true → has (names_of es) n ≡ true
meets n es e left way some at same = meets_at n es e (left - 1) (subst (IsOnWay n es) (before left some) way) at same

pub goes_on : (n : List ℕ) (es : List Entry) (table : List ℕ) (e : Entry) (left : ℕ) → IsKept es table → IsOnWay n es left → 0 < left → slice_get es (left - 1) ≡ Some e → bytes_eq e.name n ≡ false → IsOnWay n es e.older
goes_on n es table e left kept way some at other = goes_from n es table e (left - 1) kept (subst (IsOnWay n es) (before left some) way) at other

newest_few : (b : ℕ) (es : List Entry) (k : ℕ) → newest b es k ≤ k
newest_few b es zero = omega arith
newest_few b es (suc k) = by (newest_few b es k) (is_in b (slice_get es k))
  where
    by : newest b es k ≤ k → (t : Bool) → cond t (suc k) (newest b es k) ≤ suc k
    by few true = omega arith
    by few false = omega (arith, few)

pub gets_less : (es : List Entry) (table : List ℕ) (e : Entry) (left : ℕ) → IsKept es table → 0 < left → slice_get es (left - 1) ≡ Some e → e.older < left
gets_less es table e left kept some at =
    let is = kept.linked (left - 1) e at in
    let few = newest_few (bucket e.name) es (left - 1) in
    omega (arith, is, few, some)

-- how the table is kept

pub none_kept : IsKept [] []
none_kept = record { linked = λ k e h. absurd (nothing k e h); heads = λ b l. refl; sized = inl refl }

-- a table that reads the same
pub opened : (es : List Entry) (before table : List ℕ) → IsKept es before → length table ≡ 65521 → ((b : ℕ) → get_or table b 0 ≡ get_or before b 0) → IsKept es table
opened es before table kept size same = record { linked = kept.linked; heads = λ b l. same b ∙ kept.heads b l; sized = inr size }

abbrev or_else : Entry → Option Entry → Entry
or_else e None = e
or_else e (Some x) = x

pub declared : (es : List Entry) (table : List ℕ) (e : Entry) (b count : ℕ) → IsKept es table → length table ≡ 65521 → b ≡ bucket e.name → b < 65521 → e.older ≡ get_or table b 0 → count ≡ length (es ++ e ∷ []) → IsKept (es ++ e ∷ []) (set table b count)
declared es table e b count kept size is below older counted = record {
  linked = links;
  heads = λ c l. elim (cases_eq c b) [
    | inl same ↦ ap (λ i. get_or (set table b count) i 0) same ∙ get_or-set_same table b count 0 (omega (arith, size, below)) ∙ counted ∙ more ∙ sym (heads_are c (eq-eqb (bucket e.name) c (sym is ∙ sym same)))
    | inr other ↦ get_or-set_other table b c count 0 other ∙ kept.heads c l ∙ sym (heads_stay c (ne_eqb (bucket e.name) c (λ h. other (sym h ∙ sym is))))
  ];
  sized = inr (length-set table b count ∙ size);
}
  where
    more : length (es ++ e ∷ []) ≡ suc (length es)
    more = let a = length-append es (e ∷ []) in omega (arith, a)

    heads_are : (c : ℕ) → nat_eq (bucket e.name) c ≡ true → newest c (es ++ e ∷ []) (length (es ++ e ∷ [])) ≡ suc (length es)
    heads_are c h = newest_more c es e ∙ ap (λ t. cond t (suc (length es)) (newest c es (length es))) h

    heads_stay : (c : ℕ) → nat_eq (bucket e.name) c ≡ false → newest c (es ++ e ∷ []) (length (es ++ e ∷ [])) ≡ newest c es (length es)
    heads_stay c h = newest_more c es e ∙ ap (λ t. cond t (suc (length es)) (newest c es (length es))) h

    new_link : (k : ℕ) → k ≡ length es → e.older ≡ newest (bucket e.name) (es ++ e ∷ []) k
    new_link k at =
        older ∙ kept.heads b below ∙ ap (λ c. newest c es (length es)) is
        ∙ sym (newest_append (bucket e.name) es e (length es) (omega arith))
        ∙ ap (λ i. newest (bucket e.name) (es ++ e ∷ []) i) (sym at)

    links : (k : ℕ) (x : Entry) → slice_get (es ++ e ∷ []) k ≡ Some x → x.older ≡ newest (bucket x.name) (es ++ e ∷ []) k
    links k x h = elim (cases_lt k (length es)) [
      | inl l ↦ kept.linked k x (sym (appended es e k l) ∙ h) ∙ sym (newest_append (bucket x.name) es e k (omega (arith, l)))
      | inr g ↦
          let w : k < length (es ++ e ∷ []) = slice_get_within (es ++ e ∷ []) k x h in
          let at : k ≡ length es = omega (arith, g, w, more) in
          let same : e ≡ x = ap (or_else e) (sym (last es e) ∙ ap (slice_get (es ++ e ∷ [])) (sym at) ∙ h) in
          subst (λ (y : Entry). y.older ≡ newest (bucket y.name) (es ++ e ∷ []) k) same (new_link k at)
    ]

-- where there is a name there is a table
pub has_table : (es : List Entry) (table : List ℕ) (e : Entry) (b : ℕ) → IsKept (es ++ e ∷ []) table → b ≡ bucket e.name → b < 65521 → length table ≡ 65521
has_table es table e b kept is below = elim kept.sized [
  | inl none ↦ absurd (never none)
  | inr size ↦ size
]
  where
    never : table ≡ [] → ⊥
    never none =
        let h : 0 ≡ suc (length es) =
        sym (ap (λ t. get_or t b 0) none) ∙ kept.heads b below ∙ newest_more b es e
        ∙ ap (λ t. cond t (suc (length es)) (newest b es (length es))) (eq-eqb (bucket e.name) b (sym is)) in
        omega (arith, h)

pub forgotten : (es : List Entry) (table : List ℕ) (e : Entry) (b : ℕ) → IsKept (es ++ e ∷ []) table → b ≡ bucket e.name → b < 65521 → IsKept es (set table b e.older)
forgotten es table e b kept is below = record {
  linked = λ k x h. kept.linked k x (appended es e k (slice_get_within es k x h) ∙ h) ∙ newest_append (bucket x.name) es e k (let w = slice_get_within es k x h in omega (arith, w));
  heads = λ c l. elim (cases_eq c b) [
    | inl same ↦ ap (λ i. get_or (set table b e.older) i 0) same ∙ get_or-set_same table b e.older 0 (omega (arith, size, below)) ∙ link ∙ ap (λ i. newest i es (length es)) (sym is ∙ sym same)
    | inr other ↦ get_or-set_other table b c e.older 0 other ∙ kept.heads c l ∙ newest_more c es e ∙ ap (λ t. cond t (suc (length es)) (newest c es (length es))) (ne_eqb (bucket e.name) c (λ h. other (sym h ∙ sym is)))
  ];
  sized = inr (length-set table b e.older ∙ size);
}
  where
    size : length table ≡ 65521
    size = has_table es table e b kept is below

    link : e.older ≡ newest (bucket e.name) es (length es)
    link = kept.linked (length es) e (last es e) ∙ newest_append (bucket e.name) es e (length es) (omega arith)
