-- The walk to the declaration that a token names, and what the walks pass over.
use Rattle.std.proofs.Common.{◌≡◌, ℕ, zero, suc, ◌-◌, ◌<◌, ◌≤◌, Bool, true, false, not, ◌&&◌, ◌||◌, if◌then◌else◌, nat_eq, nat_le, nat_lt, List, [], ◌∷◌, ◌++◌, Option, None, Some, length, take, refl, sym, ◌∙◌, ap, subst, arith, slice_get, get_or, bytes_eq, inl, inr, ◌⊎◌}
use Rattle.std.specs.Option.{option_map}
use Rattle.std.proofs.lemmas.Bool.{both_ways, cases_Bool, leb-true, le-leb, lt-leb, ltb-true, eqb-true, ne_eqb, or_cases, and_left, and_right, and_parts}
use Rattle.std.proofs.lemmas.List.{take_all}
use Rattle.std.proofs.lemmas.Option.{slice_get_within, slice_get_read, slice_get-map}
use Rattle.std.proofs.lemmas.Slice.Eq.{bytes_eq-Decides}
use Rattle.c_tree.specs.Tree as t
use Rattle.c_meaning.specs.Program.{is_number, initial_in, initial_of, or_initial}
use Rattle.c_meaning.specs.Scope.{Scope, file, block, Declared, begin_of, holds, is_file, is_same, is_tag}
use Rattle.c_meaning.specs.Bindings as b
use Rattle.c_meaning.specs.Bindings.{inner, is_visible, visible_in}
use Rattle.type_scopes.specs.declared.entries.Entity.{Entity}
use Rattle.type_scopes.specs.declared.entries.Entity.TheVariants as en
use Rattle.type_scopes.specs.declared.links.Span.{Span}
use Rattle.type_scopes.specs.declared.linked.Row.{Row}
use Rattle.type_scopes.specs.declared.entries.Entry.{Entry}
use Rattle.type_scopes.specs.Seen.{entry_of, entity_of, scope_of, what_of}
use Rattle.type_scopes.specs.Buckets.{bucket}
use Rattle.type_scopes.specs.Reaching.{Within}
use Rattle.type_scopes.specs.Asked.{is_hidden, no_deeper, is_apart, is_elsewhere, has_no_number}
use Rattle.type_scopes.specs.Walking.{joined, seen_one, last_of, is_placed, is_in_file, is_twin, own_initial}
use Rattle.type_scopes.specs.Chains.{entries_of, Chain, by_name, by_order, name_span, order_span, lowest, highest, Leads, Free, IsLink, IsLinked, IsKept}
use Rattle.type_scopes.proofs.Joining.{some_at, es_of, at_es, es_long, taken, or_row, joined_twice, past_free, past_jump}

-- ---- Another bucket, another name

other_name : (tag : Bool) (m n : List ℕ) → (bucket tag m ≡ bucket tag n → ⊥) → bytes_eq m n ≡ false
other_name tag m n h = elim (cases_Bool (bytes_eq m n)) [
  | inl is ↦ absurd (h (ap (bucket tag) ((bytes_eq-Decides m n).0 is)))
  | inr is ↦ is
]

-- in another bucket it is in another name space, or has another name
other_key : (t u : Bool) (m n : List ℕ) → (bucket t m ≡ bucket u n → ⊥) → (t ≡ u → ⊥) ⊎ (bytes_eq m n ≡ false)
other_key true true m n h = inr (other_name true m n h)
other_key false false m n h = inr (other_name false m n h)
other_key true false m n h = inl (λ e. both_ways true e refl)
other_key false true m n h = inl (λ e. both_ways false refl e)

apart_spaces : (t u : Bool) → (t ≡ u → ⊥) → (if t then u else not u) ≡ false
apart_spaces true true h = absurd (h refl)
apart_spaces true false h = refl
apart_spaces false true h = refl
apart_spaces false false h = absurd (h refl)

module _ (tag : Bool) (name : List ℕ) (at : ℕ) where
  module _ (e : b.Entry) where
    unnamed : bytes_eq e.declared.name name ≡ false → is_visible tag name at e ≡ false
    unnamed h = and_right (if is_tag e.declared.what then tag else not tag) _ (and_left (bytes_eq e.declared.name name) (nat_le e.declared.from at && holds e.declared.scope at) h)

    of_another : (is_tag e.declared.what ≡ tag → ⊥) ⊎ (bytes_eq e.declared.name name ≡ false) → is_visible tag name at e ≡ false
    of_another (inl h) = and_left (if is_tag e.declared.what then tag else not tag) _ (apart_spaces (is_tag e.declared.what) tag h)
    of_another (inr h) = unnamed h

    too_late : nat_le e.declared.from at ≡ false → is_visible tag name at e ≡ false
    too_late h = and_right (if is_tag e.declared.what then tag else not tag) _ (and_right (bytes_eq e.declared.name name) _ (and_left (nat_le e.declared.from at) (holds e.declared.scope at) h))

    outside : holds e.declared.scope at ≡ false → is_visible tag name at e ≡ false
    outside h = and_right (if is_tag e.declared.what then tag else not tag) _ (and_right (bytes_eq e.declared.name name) _ (and_right (nat_le e.declared.from at) (holds e.declared.scope at) h))

    nothing : (best : Option b.Entry) → is_visible tag name at e ≡ false → joined (seen_one tag name at e) best ≡ best
    nothing best h = ap (λ (t : Bool). joined (if t then Some e else None) best) h

    -- a declaration in no inner scope than that of a later one
    not_inner : (l : b.Entry) → nat_le (begin_of e.declared.scope) (begin_of l.declared.scope) ≡ true → joined (seen_one tag name at e) (Some l) ≡ Some l
    not_inner l h = by (is_visible tag name at e)
      where
        by : (t : Bool) → joined (if t then Some e else None) (Some l) ≡ Some l
        by true = ap (λ (u : Bool). Some (if u then l else e)) h
        by false = refl

  ended : (sc : Scope) → last_of sc < at → at < 4294967296 → holds sc at ≡ false
  ended file h w = absurd (omega (arith, h, w))
  ended (block first last) h w = and_right (nat_le first at) (nat_le at last) (lt-leb at last h)

  -- what the span of a link hides
  hidden_by : (s : Span) (best : Option b.Entry) (x : Row) → at < 4294967296 → is_hidden s at best ≡ true → Within (name_span x.entry) s → joined (seen_one tag name at (entry_of x.entry)) best ≡ best
  hidden_by s best x w h within = elim (or_cases (nat_lt at s.from) (nat_lt s.to at || no_deeper s.high best) h) [
    | inl p ↦
        let l = ltb-true at s.from p in
        let from = within.from in
        nothing (entry_of x.entry) best (too_late (entry_of x.entry) (lt-leb x.entry.from at (omega (arith, l, from))))
    | inr q ↦ elim (or_cases (nat_lt s.to at) (no_deeper s.high best) q) [
      | inl p ↦
          let l = ltb-true s.to at p in
          let to = within.to in
          nothing (entry_of x.entry) best (outside (entry_of x.entry) (ended (scope_of x.entry.scope) (omega (arith, l, to)) w))
      | inr p ↦ deeper best p
    ]
  ]
    where
      deeper : (o : Option b.Entry) → no_deeper s.high o ≡ true → joined (seen_one tag name at (entry_of x.entry)) o ≡ o
      deeper None p = absurd (both_ways false refl p)
      deeper (Some l) p =
          let k = leb-true s.high (begin_of l.declared.scope) p in
          let high = within.high in
          not_inner (entry_of x.entry) l (le-leb (begin_of (scope_of x.entry.scope)) (begin_of l.declared.scope) (omega (arith, k, high)))

  -- ---- A declaration more

  step_by : (best : Option b.Entry) (e : b.Entry) (t : Bool) → (if t then Some (inner best e) else best) ≡ joined best (if t then Some e else None)
  step_by None e true = refl
  step_by None e false = refl
  step_by (Some x) e true = refl
  step_by (Some x) e false = refl

  seen_push : (best : Option b.Entry) (es : List b.Entry) (e : b.Entry) → visible_in tag name at best (es ++ e ∷ []) ≡ joined (visible_in tag name at best es) (seen_one tag name at e)
  seen_push best [] e = step_by best e (is_visible tag name at e)
  seen_push best (x ∷ es) e = seen_push (if is_visible tag name at x then Some (inner best x) else best) es e

  module _ (xs : List Row) where
    seen_step : (k : ℕ) (x : Row) (best : Option b.Entry) → slice_get xs k ≡ Some x → joined (visible_in tag name at None (take (suc k) (es_of xs))) best ≡ joined (visible_in tag name at None (take k (es_of xs))) (joined (seen_one tag name at (entry_of x.entry)) best)
    seen_step k x best h =
        ap (λ ys. joined (visible_in tag name at None ys) best) (taken (es_of xs) (entry_of x.entry) k (at_es xs k x h))
        ∙ ap (λ z. joined z best) (seen_push None (take k (es_of xs)) (entry_of x.entry))
        ∙ joined_twice (visible_in tag name at None (take k (es_of xs))) (seen_one tag name at (entry_of x.entry)) best

    seen_same : (k : ℕ) (x : Row) (best : Option b.Entry) → slice_get xs k ≡ Some x → joined (seen_one tag name at (entry_of x.entry)) best ≡ best → joined (visible_in tag name at None (take (suc k) (es_of xs))) best ≡ joined (visible_in tag name at None (take k (es_of xs))) best
    seen_same k x best h e = seen_step k x best h ∙ ap (joined (visible_in tag name at None (take k (es_of xs)))) e

    other_seen : (best : Option b.Entry) (j : ℕ) (z : Row) → slice_get xs j ≡ Some z → (by_name.bucket z ≡ bucket tag name → ⊥) → joined (visible_in tag name at None (take (suc j) (es_of xs))) best ≡ joined (visible_in tag name at None (take j (es_of xs))) best
    other_seen best j z h other = seen_same j z best h (nothing (entry_of z.entry) best (of_another (entry_of z.entry) (other_key (is_tag (what_of z.entry.what)) tag z.entry.name.now name other)))

    -- on the way back: what is left and the best so far make up all
    pub record IsOnWay (best : Option b.Entry) (left : ℕ) : Type 0 where
      pub leads : Leads by_name (bucket tag name) xs left
      pub rest : joined (visible_in tag name at None (take left (es_of xs))) best ≡ visible_in tag name at None (es_of xs)

    joined_none : (o : Option b.Entry) → joined o None ≡ o
    joined_none None = refl
    joined_none (Some e) = refl

    pub leads_few : (left : ℕ) → Leads by_name (bucket tag name) xs left → left ≤ length xs
    leads_few zero h = omega arith
    leads_few (suc k) h = let r = h k refl in let w = slice_get_within xs k r.0 r.1 in omega (arith, w)

    pub starts : (table : List ℕ) (n left : ℕ) → IsKept xs table → n ≡ bucket tag name → n < 65521 → left ≡ get_or table n 0 → IsOnWay None left
    starts table n left kept is below head =
        let h = kept.heads n below in
        let leads : Leads by_name (bucket tag name) xs left = subst (λ m. Leads by_name (bucket tag name) xs m) (sym head) (subst (λ m. Leads by_name m xs (get_or table n 0)) is h.0) in
        let free : Free by_name (bucket tag name) xs left (length xs) = subst (λ m. Free by_name (bucket tag name) xs m (length xs)) (sym head) (subst (λ m. Free by_name m xs (get_or table n 0) (length xs)) is h.1) in record {
          leads = leads;
          rest =
              sym (past_free (λ k. joined (visible_in tag name at None (take k (es_of xs))) None) by_name (bucket tag name) xs (other_seen None) left (length xs) (leads_few left leads) (omega arith) free)
              ∙ joined_none (visible_in tag name at None (take (length xs) (es_of xs)))
              ∙ ap (visible_in tag name at None) (take_all (length xs) (es_of xs) (let l = es_long xs in omega (arith, l)));
        }

    of_bucket : (left k : ℕ) (x : Row) → Leads by_name (bucket tag name) xs left → left ≡ suc k → slice_get xs k ≡ Some x → by_name.bucket x ≡ bucket tag name
    of_bucket left k x h e g = let r = h k e in ap by_name.bucket (ap (or_row x) (sym g ∙ r.1)) ∙ r.2

    pub jumps : (best : Option b.Entry) (left k : ℕ) (x : Row) → left ≡ suc k → slice_get xs k ≡ Some x → IsLink by_name xs k x → at < 4294967296 → is_hidden x.name.span at best ≡ true → IsOnWay best left → IsOnWay best x.name.jump
    jumps best left k x e g is w hidden way =
        let of = of_bucket left k x way.leads e g in record {
          leads = subst (λ m. Leads by_name m xs x.name.jump) of is.jump;
          rest =
              sym (past_jump (λ k. joined (visible_in tag name at None (take k (es_of xs))) best) by_name (bucket tag name) xs (other_seen best) k x is of g
              (λ j z h within. seen_same j z best h (hidden_by x.name.span best z w hidden within)))
              ∙ ap (λ m. joined (visible_in tag name at None (take m (es_of xs))) best) (sym e) ∙ way.rest;
        }

    pub goes : (best next : Option b.Entry) (left k : ℕ) (x : Row) → left ≡ suc k → slice_get xs k ≡ Some x → IsLink by_name xs k x → next ≡ joined (seen_one tag name at (entry_of x.entry)) best → IsOnWay best left → IsOnWay next x.name.older
    goes best next left k x e g is new way =
        let of = of_bucket left k x way.leads e g in
        let within = slice_get_within xs k x g in record {
          leads = subst (λ m. Leads by_name m xs x.name.older) of is.older;
          rest =
              sym (past_free (λ k. joined (visible_in tag name at None (take k (es_of xs))) next) by_name (bucket tag name) xs (other_seen next) x.name.older k is.few (omega (arith, within)) (subst (λ m. Free by_name m xs x.name.older k) of is.free))
              ∙ ap (joined (visible_in tag name at None (take k (es_of xs)))) new
              ∙ sym (seen_step k x best g)
              ∙ ap (λ m. joined (visible_in tag name at None (take m (es_of xs))) best) (sym e) ∙ way.rest;
        }

    pub ends : (best : Option b.Entry) (left : ℕ) → left ≡ 0 → IsOnWay best left → best ≡ visible_in tag name at None (es_of xs)
    ends best left e way = ap (λ m. joined (visible_in tag name at None (take m (es_of xs))) best) (sym e) ∙ way.rest

-- ---- What the other walks pass over

pub not_placed : (at : ℕ) (s : Span) (z : Row) → is_elsewhere s at ≡ true → Within (order_span z.entry) s → is_placed at (entry_of z.entry) ≡ false
not_placed at s z h within = and_left (nat_eq z.entry.at at) _ (ne_eqb z.entry.at at (λ same. elim (or_cases (nat_lt at s.from) (nat_lt s.to at) h) [
  | inl p ↦ let l = ltb-true at s.from p in let f = within.from in omega (arith, l, f, same)
  | inr p ↦ let l = ltb-true s.to at p in let f = within.to in omega (arith, l, f, same)
]))

pub not_numbered : (number : ℕ) (s : Span) (z : Row) → has_no_number s number ≡ true → Within (order_span z.entry) s → is_number number (entity_of z.entry.entity) ≡ false
not_numbered number s z h within = by z.entry.entity within.low within.high
  where
    by : (e : Entity) → s.low ≤ lowest e → highest e ≤ s.high → is_number number (entity_of e) ≡ false
    by (en.Object m) l u = ne_eqb m number (λ same. elim (or_cases (nat_lt number s.low) (nat_lt s.high number) h) [
      | inl p ↦ let k = ltb-true number s.low p in omega (arith, l, u, k, same)
      | inr p ↦ let k = ltb-true s.high number p in omega (arith, l, u, k, same)
    ])
    by (en.Function r ps) l u = refl
    by (en.Constant v) l u = refl
    by (en.Typedef k c) l u = refl
    by (en.Tag k) l u = refl
    by (en.Name k c) l u = refl

-- the file has no last token
pub not_in_file : (name : List ℕ) (s : Span) (z : Row) → s.to < 4294967295 → Within (name_span z.entry) s → is_in_file name (entry_of z.entry) ≡ false
not_in_file name s z h within = and_left (is_file (scope_of z.entry.scope)) _ (by (scope_of z.entry.scope) (let f = within.to in omega (arith, h, f)))
  where
    by : (sc : Scope) → last_of sc < 4294967295 → is_file sc ≡ false
    by file l = absurd (omega (arith, l))
    by (block first last) l = refl

pub other_in_file : (name : List ℕ) (z : Row) → (by_name.bucket z ≡ bucket false name → ⊥) → is_in_file name (entry_of z.entry) ≡ false
other_in_file name z other = and_right (is_file (scope_of z.entry.scope)) _ (by (is_tag (what_of z.entry.what)) (other_key (is_tag (what_of z.entry.what)) false z.entry.name.now name other))
  where
    by : (t : Bool) → (t ≡ false → ⊥) ⊎ (bytes_eq z.entry.name.now name ≡ false) → (not t && bytes_eq z.entry.name.now name) ≡ false
    by true h = refl
    by false (inl h) = absurd (h refl)
    by false (inr h) = h

-- scopes that are one have one last token
same_last : (x y : Scope) → is_same x y ≡ true → last_of x ≡ last_of y
same_last file file h = refl
same_last (block first last) (block f l) h = eqb-true last l (and_parts (nat_eq first f) (nat_eq last l) h).1
same_last file (block f l) h = absurd (both_ways false refl h)
same_last (block first last) file h = absurd (both_ways false refl h)

-- and begin at one token
same_begin : (x y : Scope) → is_same x y ≡ true → begin_of x ≡ begin_of y
same_begin file file h = refl
same_begin (block first last) (block f l) h = ap suc (eqb-true first f (and_parts (nat_eq first f) (nat_eq last l) h).0)
same_begin file (block f l) h = absurd (both_ways false refl h)
same_begin (block first last) file h = absurd (both_ways false refl h)

pub no_twin : (d : Declared) (s : Span) (z : Row) → is_apart s d.scope ≡ true → Within (name_span z.entry) s → is_twin d (entry_of z.entry) ≡ false
no_twin d s z h within = and_right (if is_tag d.what then is_tag (what_of z.entry.what) else not (is_tag (what_of z.entry.what))) _ (and_left (is_same d.scope (scope_of z.entry.scope)) _ (elim (cases_Bool (is_same d.scope (scope_of z.entry.scope))) [
  | inl is ↦ absurd (never is (or_cases (nat_lt s.to (last_of d.scope)) (nat_lt s.high (begin_of d.scope)) h))
  | inr is ↦ is
]))
  where
    never : is_same d.scope (scope_of z.entry.scope) ≡ true → (nat_lt s.to (last_of d.scope) ≡ true) ⊎ (nat_lt s.high (begin_of d.scope) ≡ true) → ⊥
    never is (inl p) =
        let e = same_last d.scope (scope_of z.entry.scope) is in
        let l = ltb-true s.to (last_of d.scope) p in
        let f = within.to in
        omega (arith, e, l, f)
    never is (inr p) =
        let e = same_begin d.scope (scope_of z.entry.scope) is in
        let l = ltb-true s.high (begin_of d.scope) p in
        let f = within.high in
        omega (arith, e, l, f)

pub other_twin : (d : Declared) (z : Row) → (by_name.bucket z ≡ bucket (is_tag d.what) d.name → ⊥) → is_twin d (entry_of z.entry) ≡ false
other_twin d z other = by (other_key (is_tag d.what) (is_tag (what_of z.entry.what)) d.name z.entry.name.now (λ h. other (sym h)))
  where
    by : (is_tag d.what ≡ is_tag (what_of z.entry.what) → ⊥) ⊎ (bytes_eq d.name z.entry.name.now ≡ false) → is_twin d (entry_of z.entry) ≡ false
    by (inl h) = and_left (if is_tag d.what then is_tag (what_of z.entry.what) else not (is_tag (what_of z.entry.what))) _ (apart_spaces (is_tag d.what) (is_tag (what_of z.entry.what)) h)
    by (inr h) = and_right (if is_tag d.what then is_tag (what_of z.entry.what) else not (is_tag (what_of z.entry.what))) _ (and_right (is_same d.scope (scope_of z.entry.scope)) _ h)

-- ---- The row that a walk reads

pub read : (xs : List Row) (left : ℕ) (x : Row) → 0 < left → left ≤ length xs → x ≡ get_or xs (left - 1) x → slice_get xs (left - 1) ≡ Some x
read xs left x some few is = slice_get_read xs (length xs) (left - 1) x refl (omega (arith, some, few)) is

pub older_less : (c : Chain) (xs : List Row) (left : ℕ) (x : Row) → IsLinked c xs → 0 < left → slice_get xs (left - 1) ≡ Some x → (c.link x).older < left
older_less c xs left x all some at = let few = (all (left - 1) x at).few in omega (arith, few, some)

pub jump_less : (c : Chain) (xs : List Row) (left : ℕ) (x : Row) → IsLinked c xs → 0 < left → slice_get xs (left - 1) ≡ Some x → (c.link x).jump < left
jump_less c xs left x all some at =
    let few = (all (left - 1) x at).few in
    let further = (all (left - 1) x at).further in
    omega (arith, few, further, some)

-- each is the last of so many, in the order
pub order_start : (xs : List Row) (left : ℕ) → left ≤ length xs → Leads by_order 0 xs left
order_start xs left few j e = let r : (x : Row) × (slice_get xs j ≡ Some x) = some_at xs j (omega (arith, e, few)) in (r.0, r.1, refl)

pub order_few : (xs : List Row) (left : ℕ) → Leads by_order 0 xs left → left ≤ length xs
order_few xs zero h = omega arith
order_few xs (suc k) h = let r = h k refl in let w = slice_get_within xs k r.0 r.1 in omega (arith, w)

pub name_few : (n : ℕ) (xs : List Row) (left : ℕ) → Leads by_name n xs left → left ≤ length xs
name_few n xs zero h = omega arith
name_few n xs (suc k) h = let r = h k refl in let w = slice_get_within xs k r.0 r.1 in omega (arith, w)

abbrev or_entry : Entry → Option Entry → Entry
or_entry y None = y
or_entry y (Some z) = z

pub viewed_entry : (xs : List Row) (es : List Entry) (k : ℕ) (x : Row) (e : Entry) → entries_of xs ≡ es → slice_get xs k ≡ Some x → slice_get es k ≡ Some e → x.entry ≡ e
viewed_entry xs es k x e v h g =
    ap (or_entry x.entry) (sym (slice_get-map (λ (r : Row). r.entry) xs k ∙ ap (option_map (λ (r : Row). r.entry)) h) ∙ ap (λ ys. slice_get ys k) v ∙ g)

-- where the table leads
pub head_leads : (xs : List Row) (table : List ℕ) (tag : Bool) (name : List ℕ) (n left : ℕ) → IsKept xs table → n ≡ bucket tag name → n < 65521 → left ≡ get_or table n 0 → Leads by_name (bucket tag name) xs left
head_leads xs table tag name n left kept is below head =
    subst (λ m. Leads by_name (bucket tag name) xs m) (sym head) (subst (λ m. Leads by_name m xs (get_or table n 0)) is (kept.heads n below).0)

pub head_free : (xs : List Row) (table : List ℕ) (tag : Bool) (name : List ℕ) (n left : ℕ) → IsKept xs table → n ≡ bucket tag name → n < 65521 → left ≡ get_or table n 0 → Free by_name (bucket tag name) xs left (length xs)
head_free xs table tag name n left kept is below head =
    subst (λ m. Free by_name (bucket tag name) xs m (length xs)) (sym head) (subst (λ m. Free by_name m xs (get_or table n 0) (length xs)) is (kept.heads n below).1)

-- ---- The initial value of an object

initial_twice : (i j k : t.Initial) → or_initial (or_initial i j) k ≡ or_initial i (or_initial j k)
initial_twice t.iNothing j k = refl
initial_twice (t.iValue a e) j k = refl
initial_twice (t.iList a b es c d) j k = refl

initial_none : (i : t.Initial) → or_initial i t.iNothing ≡ i
initial_none t.iNothing = refl
initial_none (t.iValue a e) = refl
initial_none (t.iList a b es c d) = refl

module _ (number : ℕ) where
  initial_by : (u : Bool) (i rest : t.Initial) → (if u then or_initial i rest else rest) ≡ or_initial (if u then i else t.iNothing) rest
  initial_by true i rest = refl
  initial_by false i rest = refl

  initial_and : (e : b.Entry) (es : List b.Entry) → initial_of number (e ∷ es) ≡ or_initial (own_initial number e) (initial_of number es)
  initial_and e es = initial_by (is_number number e.entity) (initial_in e.declared.what) (initial_of number es)

  initial_push : (es : List b.Entry) (e : b.Entry) → initial_of number (es ++ e ∷ []) ≡ or_initial (initial_of number es) (own_initial number e)
  initial_push [] e = initial_and e [] ∙ initial_none (own_initial number e)
  initial_push (x ∷ es) e =
      initial_and x (es ++ e ∷ []) ∙ ap (or_initial (own_initial number x)) (initial_push es e) ∙ sym (initial_twice (own_initial number x) (initial_of number es) (own_initial number e))
      ∙ sym (ap (λ i. or_initial i (own_initial number e)) (initial_and x es))

  module _ (xs : List Row) where
    initial_step : (k : ℕ) (x : Row) (later : t.Initial) → slice_get xs k ≡ Some x → or_initial (initial_of number (take (suc k) (es_of xs))) later ≡ or_initial (initial_of number (take k (es_of xs))) (or_initial (own_initial number (entry_of x.entry)) later)
    initial_step k x later h =
        ap (λ ys. or_initial (initial_of number ys) later) (taken (es_of xs) (entry_of x.entry) k (at_es xs k x h))
        ∙ ap (λ z. or_initial z later) (initial_push (take k (es_of xs)) (entry_of x.entry))
        ∙ initial_twice (initial_of number (take k (es_of xs))) (own_initial number (entry_of x.entry)) later

    initial_same : (k : ℕ) (x : Row) (later : t.Initial) → slice_get xs k ≡ Some x → is_number number (entity_of x.entry.entity) ≡ false → or_initial (initial_of number (take (suc k) (es_of xs))) later ≡ or_initial (initial_of number (take k (es_of xs))) later
    initial_same k x later h no_number =
        initial_step k x later h ∙ ap (λ (u : Bool). or_initial (initial_of number (take k (es_of xs))) (or_initial (if u then initial_in (entry_of x.entry).declared.what else t.iNothing) later)) no_number

    -- on the way back: what is left and what was found make up all
    pub record IsGathering (later : t.Initial) (left : ℕ) : Type 0 where
      pub few : left ≤ length xs
      pub rest : or_initial (initial_of number (take left (es_of xs))) later ≡ initial_of number (es_of xs)

    pub gathering_starts : (left : ℕ) → left ≡ length xs → IsGathering t.iNothing left
    gathering_starts left e = record {
      few = omega (arith, e);
      rest = initial_none (initial_of number (take left (es_of xs))) ∙ ap (initial_of number) (take_all left (es_of xs) (let l = es_long xs in omega (arith, l, e)));
    }

    pub gathering_jumps : (later : t.Initial) (left k : ℕ) (x : Row) → left ≡ suc k → slice_get xs k ≡ Some x → IsLink by_order xs k x → has_no_number x.order.span number ≡ true → IsGathering later left → IsGathering later x.order.jump
    gathering_jumps later left k x e h is none way =
        let few = is.few in
        let further = is.further in
        let within = way.few in record {
          few = omega (arith, few, further, within, e);
          rest =
              sym (past_jump (λ k. or_initial (initial_of number (take k (es_of xs))) later) by_order 0 xs (λ j z g other. absurd (other refl)) k x is refl h
              (λ j z g w. initial_same j z later g (not_numbered number x.order.span z none w)))
              ∙ ap (λ m. or_initial (initial_of number (take m (es_of xs))) later) (sym e) ∙ way.rest;
        }

    pub gathering_goes : (later next : t.Initial) (left k : ℕ) (x : Row) → left ≡ suc k → slice_get xs k ≡ Some x → IsLink by_order xs k x → next ≡ or_initial (own_initial number (entry_of x.entry)) later → IsGathering later left → IsGathering next x.order.older
    gathering_goes later next left k x e h is new way =
        let few = is.few in
        let within = way.few in record {
          few = omega (arith, few, within, e);
          rest =
              sym (past_free (λ k. or_initial (initial_of number (take k (es_of xs))) next) by_order 0 xs (λ j z g other. absurd (other refl)) x.order.older k is.few (omega (arith, within, e)) is.free)
              ∙ ap (or_initial (initial_of number (take k (es_of xs)))) new
              ∙ sym (initial_step k x later h)
              ∙ ap (λ m. or_initial (initial_of number (take m (es_of xs))) later) (sym e) ∙ way.rest;
        }

    pub gathering_ends : (later : t.Initial) (left : ℕ) → left ≡ 0 → IsGathering later left → later ≡ initial_of number (es_of xs)
    gathering_ends later left e way = ap (λ m. or_initial (initial_of number (take m (es_of xs))) later) (sym e) ∙ way.rest
