-- What a declaration meets has its name, its name space and its scope.
use Rattle.std.proofs.Common.{◌≡◌, ℕ, zero, suc, ◌+◌, ◌<◌, ◌≤◌, Bool, true, false, ◌||◌, ◌&&◌, not, if◌then◌else◌, cond, nat_eq, nat_lt, List, [], ◌∷◌, ◌++◌, length, take, map, slice_get, bytes_eq, Option, None, Some, refl, ap, ◌∙◌, sym, arith, inl, inr, ◌⊎◌}
use Rattle.std.specs.List.{list_any}
use Rattle.std.specs.Option.{option_map}
use Rattle.std.proofs.lemmas.Bool.{and_parts, and_cases, and_left, and_right, eqb-true, both_ways}
use Rattle.std.proofs.lemmas.List.{length-map}
use Rattle.std.proofs.lemmas.Option.{slice_get_within, slice_get-map}
use Rattle.std.proofs.lemmas.Slice.Eq.{bytes_eq-Decides}
use Rattle.lv_base.specs.declared.kind.Model.{Model}
use Rattle.c_meaning.specs.Scope.{Scope, file, block, Declared, is_same, is_tag}
use Rattle.c_meaning.specs.Bindings as b
use Rattle.type_scopes.specs.declared.entries.Entry.{Entry}
use Rattle.type_scopes.specs.Seen.{entry_of, declared_of}
use Rattle.type_scopes.specs.Walking.{is_twin, holds_at, last_where}
use Rattle.declaration_rules.specs.Twice as d
use Rattle.declaration_rules.specs.Earlier.{is_met}
use Rattle.declaration_rules.proofs.Rows.{any_push, twice_push}

-- ---- Lists

none_before : (k : ℕ) → k < 0 → ⊥
none_before k l = omega (arith, l)

abbrev first_entry : Option b.Entry → List b.Entry
first_entry None = []
first_entry (Some y) = y ∷ []

taken : (es : List b.Entry) (e : b.Entry) (k : ℕ) → slice_get es k ≡ Some e → take (suc k) es ≡ take k es ++ e ∷ []
taken [] e k h = absurd (none_before k (slice_get_within [] k e h))
taken (x ∷ es) e zero h = ap first_entry h
taken (x ∷ es) e (suc k) h = ap (λ ys. x ∷ ys) (taken es e k h)

pub some_at : (es : List b.Entry) (k : ℕ) → k < length es → (e : b.Entry) × (slice_get es k ≡ Some e)
some_at [] k h = absurd (none_before k h)
some_at (e ∷ es) zero h = (e, refl)
some_at (e ∷ es) (suc k) h = some_at es k (omega (arith, h))

abbrev or_entry : b.Entry → Option b.Entry → b.Entry
or_entry e None = e
or_entry e (Some x) = x

-- a declaration that is seen stands in the list
listed : (xs : List Entry) (k : ℕ) (e : b.Entry) → slice_get (map entry_of xs) k ≡ Some e → (x : Entry) × (slice_get xs k ≡ Some x) × (entry_of x ≡ e)
listed [] k e h = absurd (none_before k (slice_get_within [] k e h))
listed (x ∷ xs) zero e h = (x, refl, ap (or_entry (entry_of x)) h)
listed (x ∷ xs) (suc k) e h = listed xs k e h

-- ---- Scopes and names

pub same_scope : (x y : Scope) → is_same x y ≡ true → x ≡ y
same_scope file file h = refl
same_scope (block a m) (block c n) h =
    let p = and_parts (nat_eq a c) (nat_eq m n) h in
    ap (λ z. block z m) (eqb-true a c p.0) ∙ ap (block c) (eqb-true m n p.1)
same_scope file (block c n) h = absurd (both_ways false refl h)
same_scope (block a m) file h = absurd (both_ways false refl h)

same_tag : (t u : Bool) → (if t then u else not u) ≡ true → t ≡ u
same_tag true u h = sym h
same_tag false true h = absurd (both_ways false refl h)
same_tag false false h = refl

module _ (x : Declared) (e : b.Entry) (h : is_twin x e ≡ true) where
  both : ((if is_tag x.what then is_tag e.declared.what else not (is_tag e.declared.what)) ≡ true) × ((is_same x.scope e.declared.scope && bytes_eq x.name e.declared.name) ≡ true)
  both = and_parts (if is_tag x.what then is_tag e.declared.what else not (is_tag e.declared.what)) (is_same x.scope e.declared.scope && bytes_eq x.name e.declared.name) h

  parts : (is_same x.scope e.declared.scope ≡ true) × (bytes_eq x.name e.declared.name ≡ true)
  parts = and_parts (is_same x.scope e.declared.scope) (bytes_eq x.name e.declared.name) both.1

  -- those of a name space, a scope and a name
  abbrev alike_in : Bool → Scope → List ℕ → b.Entry → Bool
  alike_in t s n y = (if t then is_tag y.declared.what else not (is_tag y.declared.what)) && (is_same s y.declared.scope && bytes_eq n y.declared.name)

  -- the twins of a twin
  twins_same : (es : List b.Entry) (k : ℕ) → last_where (is_twin e.declared) es k ≡ last_where (is_twin x) es k
  twins_same es k =
      ap (λ (t : Bool). last_where (alike_in t e.declared.scope e.declared.name) es k) (sym (same_tag (is_tag x.what) (is_tag e.declared.what) both.0))
      ∙ ap (λ s. last_where (alike_in (is_tag x.what) s e.declared.name) es k) (sym (same_scope x.scope e.declared.scope parts.0))
      ∙ ap (λ n. last_where (alike_in (is_tag x.what) x.scope n) es k) (sym ((bytes_eq-Decides x.name e.declared.name).0 parts.1))

-- what is no twin is not met
no_meeting : (x : Declared) (e : b.Entry) → is_twin x e ≡ false → is_met x e ≡ false
no_meeting x e h = of_both (and_cases (d.same_space x.what e.declared.what) (is_same x.scope e.declared.scope && bytes_eq x.name e.declared.name) h)
  where
    by : (is_same x.scope e.declared.scope ≡ false) ⊎ (bytes_eq x.name e.declared.name ≡ false) → (is_same x.scope e.declared.scope && (bytes_eq x.name e.declared.name && nat_lt 0 (length x.name))) ≡ false
    by (inl s) = and_left (is_same x.scope e.declared.scope) _ s
    by (inr n) = and_right (is_same x.scope e.declared.scope) _ (and_left (bytes_eq x.name e.declared.name) (nat_lt 0 (length x.name)) n)

    of_both : (d.same_space x.what e.declared.what ≡ false) ⊎ ((is_same x.scope e.declared.scope && bytes_eq x.name e.declared.name) ≡ false) → is_met x e ≡ false
    of_both (inl s) = and_left (d.same_space x.what e.declared.what) _ s
    of_both (inr r) = and_right (d.same_space x.what e.declared.what) _ (by (and_cases (is_same x.scope e.declared.scope) (bytes_eq x.name e.declared.name) r))

-- a declaration without a name meets none
pub nameless : (x : Declared) (es : List b.Entry) (k : ℕ) → length x.name ≡ 0 → 0 ≡ last_where (is_met x) es k
nameless x es zero h = refl
nameless x es (suc k) h = nameless x es k h ∙ sym (ap (λ u. cond u (suc k) (last_where (is_met x) es k)) (at (slice_get es k)))
  where
    short : nat_lt 0 (length x.name) ≡ false
    short = ap (λ n. nat_lt 0 n) h

    at : (o : Option b.Entry) → holds_at (is_met x) o ≡ false
    at None = refl
    at (Some e) = and_right (d.same_space x.what e.declared.what) _ (and_right (is_same x.scope e.declared.scope) _ (and_right (bytes_eq x.name e.declared.name) (nat_lt 0 (length x.name)) short))

-- ---- The last that passes a test

pub any_taken : (q : b.Entry → Bool) (es : List b.Entry) (k : ℕ) (e : b.Entry) → slice_get es k ≡ Some e → list_any q (take (suc k) es) ≡ (q e || list_any q (take k es))
any_taken q es k e h = ap (list_any q) (taken es e k h) ∙ any_push q (take k es) e

last_here : (p : b.Entry → Bool) (es : List b.Entry) (k : ℕ) (e : b.Entry) → slice_get es k ≡ Some e → last_where p es (suc k) ≡ cond (p e) (suc k) (last_where p es k)
last_here p es k e h = ap (λ o. cond (holds_at p o) (suc k) (last_where p es k)) h

module _ (p : b.Entry → Bool) (es : List b.Entry) where
  pub last_is : (count j : ℕ) → count ≤ length es → last_where p es count ≡ suc j → (j < count) × (e : b.Entry) × (slice_get es j ≡ Some e) × (p e ≡ true)
  last_is zero j l h = absurd (never h)
    where
      never : 0 ≡ suc j → ⊥
      never e = omega (arith, e)
  last_is (suc k) j l h =
      let r : (e : b.Entry) × (slice_get es k ≡ Some e) = some_at es k (omega (arith, l)) in
      by r.0 r.1 (p r.0) refl (sym (last_here p es k r.0 r.1) ∙ h) (last_is k j (omega (arith, l)))
    where
      by : (e : b.Entry) → slice_get es k ≡ Some e → (t : Bool) → p e ≡ t → cond t (suc k) (last_where p es k) ≡ suc j →
          (last_where p es k ≡ suc j → (j < k) × (e : b.Entry) × (slice_get es j ≡ Some e) × (p e ≡ true)) →
          (j < suc k) × (e : b.Entry) × (slice_get es j ≡ Some e) × (p e ≡ true)
      by e at true is same less = let q : k ≡ j = omega (arith, same) in (omega (arith, q), e, ap (slice_get es) (sym q) ∙ at, is)
      by e at false is same less = let r = less same in let q = r.0 in (omega (arith, q), r.1, r.2, r.3)

  last_few : (count : ℕ) → count ≤ length es → last_where p es count ≤ count
  last_few count l = by (last_where p es count) refl
    where
      by : (n : ℕ) → last_where p es count ≡ n → n ≤ count
      by zero e = omega arith
      by (suc j) e = let r = last_is count j l e in let q = r.0 in omega (arith, q)

  -- what passes another test passes this one
  module _ (q : b.Entry → Bool) (only : (e : b.Entry) → p e ≡ false → q e ≡ false) where
    pub last_any : (count : ℕ) → count ≤ length es → list_any q (take (last_where p es count) es) ≡ list_any q (take count es)
    last_any zero l = refl
    last_any (suc k) l =
        let r : (e : b.Entry) × (slice_get es k ≡ Some e) = some_at es k (omega (arith, l)) in
        ap (λ m. list_any q (take m es)) (last_here p es k r.0 r.1) ∙ by r.0 r.1 (p r.0) refl (last_any k (omega (arith, l)))
      where
        by : (e : b.Entry) → slice_get es k ≡ Some e → (t : Bool) → p e ≡ t → list_any q (take (last_where p es k) es) ≡ list_any q (take k es) →
            list_any q (take (cond t (suc k) (last_where p es k)) es) ≡ list_any q (take (suc k) es)
        by e h true is less = refl
        by e h false is less = less ∙ sym (any_taken q es k e h ∙ ap (λ (u : Bool). u || list_any q (take k es)) (only e is))

    last_last : (count : ℕ) → count ≤ length es → last_where q es (last_where p es count) ≡ last_where q es count
    last_last zero l = refl
    last_last (suc k) l =
        let r : (e : b.Entry) × (slice_get es k ≡ Some e) = some_at es k (omega (arith, l)) in
        ap (last_where q es) (last_here p es k r.0 r.1) ∙ by r.0 r.1 (p r.0) refl (last_last k (omega (arith, l)))
      where
        by : (e : b.Entry) → slice_get es k ≡ Some e → (t : Bool) → p e ≡ t → last_where q es (last_where p es k) ≡ last_where q es k →
            last_where q es (cond t (suc k) (last_where p es k)) ≡ last_where q es (suc k)
        by e h true is less = refl
        by e h false is less = less ∙ sym (last_here q es k e h ∙ ap (λ (u : Bool). cond u (suc k) (last_where q es k)) (only e is))

-- ---- The way back over the twins

module _ (x : Declared) where
  module _ (es : List b.Entry) where
    pub record IsPassing (place left : ℕ) : Type 0 where
      pub few : left ≤ place
      pub within : place ≤ length es
      pub twin : (j : ℕ) → left ≡ suc j → (e : b.Entry) × (slice_get es j ≡ Some e) × (is_twin x e ≡ true)
      pub rest : last_where (is_met x) es left ≡ last_where (is_met x) es place

    twin_of : (count left : ℕ) → count ≤ length es → left ≡ last_where (is_twin x) es count → (j : ℕ) → left ≡ suc j → (e : b.Entry) × (slice_get es j ≡ Some e) × (is_twin x e ≡ true)
    twin_of count left l h j e = let r = last_is (is_twin x) es count j l (sym h ∙ e) in (r.1, r.2, r.3)

    pub passing_starts : (place left : ℕ) → place ≤ length es → left ≡ last_where (is_twin x) es place → IsPassing place left
    passing_starts place left l h = let few = last_few (is_twin x) es place l in record {
      few = omega (arith, few, h);
      within = l;
      twin = twin_of place left l h;
      rest = ap (last_where (is_met x) es) h ∙ last_last (is_twin x) es (is_met x) (no_meeting x) place l;
    }

    -- not met here, and on to the next
    passes_on : (place left k next : ℕ) (e : b.Entry) → left ≡ suc k → slice_get es k ≡ Some e → is_twin x e ≡ true → is_met x e ≡ false → next ≡ last_where (is_twin e.declared) es k → IsPassing place left → IsPassing place next
    passes_on place left k next e h at is fails new way =
        let there : next ≡ last_where (is_twin x) es k = new ∙ twins_same x e is es k in
        let few = way.few in
        let within = way.within in
        let l : k ≤ length es = omega (arith, few, within, h) in
        let less = last_few (is_twin x) es k l in record {
          few = omega (arith, few, h, less, there);
          within = within;
          twin = twin_of k next l there;
          rest =
              ap (last_where (is_met x) es) there ∙ last_last (is_twin x) es (is_met x) (no_meeting x) k l
              ∙ sym (last_here (is_met x) es k e at ∙ ap (λ (u : Bool). cond u (suc k) (last_where (is_met x) es k)) fails)
              ∙ ap (last_where (is_met x) es) (sym h) ∙ way.rest;
        }

    pub met_found : (place left k : ℕ) → left ≡ suc k → holds_at (is_met x) (slice_get es k) ≡ true → IsPassing place left → left ≡ last_where (is_met x) es place
    met_found place left k h test way =
        let r = way.twin k h in
        let here : is_met x r.0 ≡ true = sym (ap (holds_at (is_met x)) r.1) ∙ test in
        h ∙ sym (last_here (is_met x) es k r.0 r.1 ∙ ap (λ (u : Bool). cond u (suc k) (last_where (is_met x) es k)) here) ∙ ap (last_where (is_met x) es) (sym h) ∙ way.rest

    pub none_met : (place left : ℕ) → left ≡ 0 → IsPassing place left → 0 ≡ last_where (is_met x) es place
    none_met place left h way = ap (last_where (is_met x) es) (sym h) ∙ way.rest

  pub passing_goes : (xs : List Entry) (place left k next : ℕ) → left ≡ suc k → holds_at (is_met x) (slice_get (map entry_of xs) k) ≡ false →
      ((y : Entry) → slice_get xs k ≡ Some y → next ≡ last_where (is_twin (declared_of y)) (map entry_of xs) k) → IsPassing (map entry_of xs) place left → IsPassing (map entry_of xs) place next
  passing_goes xs place left k next h test new way =
      let r = way.twin k h in
      let y : (z : Entry) × (slice_get xs k ≡ Some z) × (entry_of z ≡ r.0) = listed xs k r.0 r.1 in
      let fails : is_met x r.0 ≡ false = sym (ap (holds_at (is_met x)) r.1) ∙ test in
      passes_on (map entry_of xs) place left k next r.0 h r.1 r.2 fails (new y.0 y.1 ∙ ap (λ (z : b.Entry). last_where (is_twin z.declared) (map entry_of xs) k) y.2) way

  pub next_less : (xs : List Entry) (place left k next : ℕ) → left ≡ suc k → ((y : Entry) → slice_get xs k ≡ Some y → next ≡ last_where (is_twin (declared_of y)) (map entry_of xs) k) → IsPassing (map entry_of xs) place left → next < left
  next_less xs place left k next h new way =
      let r = way.twin k h in
      let y : (z : Entry) × (slice_get xs k ≡ Some z) × (entry_of z ≡ r.0) = listed xs k r.0 r.1 in
      let is = new y.0 y.1 in
      let few = way.few in
      let within = way.within in
      let less = last_few (is_twin (declared_of y.0)) (map entry_of xs) k (omega (arith, few, within, h)) in
      omega (arith, is, less, h)

module _ (env : b.Env) (model : Model) where
  -- ---- All of them

  pub no_lines : (xs : List Entry) (k : ℕ) → None ≡ slice_get xs k → d.lines_at env model (take k (map entry_of xs)) (slice_get (map entry_of xs) k) ≡ []
  no_lines xs k h = ap (d.lines_at env model (take k (map entry_of xs))) (slice_get-map entry_of xs k ∙ ap (option_map entry_of) (sym h))

  pub lines_here : (xs : List Entry) (k : ℕ) (e : Entry) → slice_get xs k ≡ Some e → d.lines_at env model (take k (map entry_of xs)) (slice_get (map entry_of xs) k) ≡ d.lines_of env model (take k (map entry_of xs)) (entry_of e)
  lines_here xs k e h = ap (d.lines_at env model (take k (map entry_of xs))) (slice_get-map entry_of xs k ∙ ap (option_map entry_of) h)

  twice_step : (es : List b.Entry) (k : ℕ) → k < length es → d.twice env model [] (take (k + 1) es) ≡ d.twice env model [] (take k es) ++ d.lines_at env model (take k es) (slice_get es k)
  twice_step es k l =
      let r : (e : b.Entry) × (slice_get es k ≡ Some e) = some_at es k l in
      let e : k + 1 ≡ suc k = omega arith in
      ap (λ n. d.twice env model [] (take n es)) e
      ∙ ap (d.twice env model []) (taken es r.0 k r.1) ∙ twice_push env model [] (take k es) r.0
      ∙ ap (λ o. d.twice env model [] (take k es) ++ d.lines_at env model (take k es) o) (sym r.1)

  pub twice_more : (xs : List Entry) (k : ℕ) → k < length xs → d.twice env model [] (take (k + 1) (map entry_of xs)) ≡ d.twice env model [] (take k (map entry_of xs)) ++ d.lines_at env model (take k (map entry_of xs)) (slice_get (map entry_of xs) k)
  twice_more xs k l = twice_step (map entry_of xs) k (let m = length-map xs entry_of in omega (arith, m, l))
