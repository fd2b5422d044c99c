-- How the links are kept where a declaration is added.
use Rattle.std.proofs.Common.{◌≡◌, ℕ, zero, suc, ◌+◌, ◌-◌, ◌<◌, ◌≤◌, List, [], ◌∷◌, ◌++◌, Option, None, Some, length, set, get_or, refl, sym, ◌∙◌, ap, subst, arith, slice_get, inl, inr, ◌⊎◌}
use Rattle.std.specs.Option.{option_map}
use Rattle.std.proofs.lemmas.Bool.{cases_eq, cases_lt}
use Rattle.std.proofs.lemmas.List.{length-append, length-set, get_or-set_same, get_or-set_other}
use Rattle.std.proofs.lemmas.Option.{slice_get_within, slice_get_read}
use Rattle.type_scopes.specs.declared.links.Span.{Span}
use Rattle.type_scopes.specs.declared.links.Link.{Link}
use Rattle.type_scopes.specs.declared.linked.Row.{Row}
use Rattle.type_scopes.specs.Reaching.{Within, Reaches, alone, past_both}
use Rattle.type_scopes.specs.Chains.{Chain, by_name, by_order, name_span, order_span, Leads, Free, Covered, IsLink, IsLinked, IsKept, link_before, link_behind, LinksTo, IsFirst, entries_of}
use Rattle.type_scopes.proofs.Firsts.{first_more, first_last}

-- ---- The answers of the code

pub before_is : (c : Chain) (xs : List Row) (left : ℕ) (x : Row) → 0 < left → left - 1 < length xs → x ≡ get_or xs (left - 1) x → Some (c.link x) ≡ link_before c xs left
before_is c xs zero x h l at = absurd (none h)
  where
    none : 0 < 0 → ⊥
    none l = omega (arith, l)
before_is c xs (suc k) x h l at =
    let e : suc k - 1 ≡ k = omega arith in
    ap (option_map c.link) (sym (slice_get_read xs (length xs) (suc k - 1) x refl l at) ∙ ap (slice_get xs) e)

pub links_to : (c : Chain) (xs : List Row) (older : ℕ) (span : Span) (l : Link) (near far : Option Link) → near ≡ link_before c xs older → far ≡ link_behind c xs near → l.older ≡ older → Reaches older near far span l → LinksTo c xs older span l
links_to c xs older span l near far n f o r = record {
  older = o;
  reach = subst (λ z. Reaches older z (link_behind c xs z) span l) n (subst (λ z. Reaches older near z span l) f r);
}

-- ---- Lists

appended : (xs : List Row) (y : Row) (k : ℕ) → k < length xs → slice_get (xs ++ y ∷ []) k ≡ slice_get xs k
appended [] y k h = absurd (none h)
  where
    none : k < 0 → ⊥
    none l = omega (arith, l)
appended (x ∷ xs) y zero h = refl
appended (x ∷ xs) y (suc k) h = appended xs y k (omega (arith, h))

last : (xs : List Row) (y : Row) → slice_get (xs ++ y ∷ []) (length xs) ≡ Some y
last [] y = refl
last (x ∷ xs) y = last xs y

longer : (xs : List Row) (y : Row) → length (xs ++ y ∷ []) ≡ suc (length xs)
longer xs y = let a = length-append xs (y ∷ []) in omega (arith, a)

abbrev or_else : Row → Option Row → Row
or_else x None = x
or_else x (Some y) = y

-- an element of the longer list is one of the list, or the last
either : (xs : List Row) (y : Row) (j : ℕ) (x : Row) → slice_get (xs ++ y ∷ []) j ≡ Some x → ((j < length xs) × (slice_get xs j ≡ Some x)) ⊎ ((j ≡ length xs) × (y ≡ x))
either xs y j x h = elim (cases_lt j (length xs)) [
  | inl l ↦ inl (l, sym (appended xs y j l) ∙ h)
  | inr g ↦
      let w : j < length (xs ++ y ∷ []) = slice_get_within (xs ++ y ∷ []) j x h in
      let m = longer xs y in
      let at : j ≡ length xs = omega (arith, g, w, m) in
      inr (at, ap (or_else y) (sym (last xs y) ∙ ap (slice_get (xs ++ y ∷ [])) (sym at) ∙ h))
]

-- ---- What is told of a list is told of a longer one

module _ (c : Chain) (b : ℕ) (xs : List Row) (y : Row) where
  leads_more : (left : ℕ) → Leads c b xs left → Leads c b (xs ++ y ∷ []) left
  leads_more left h j e =
      let r = h j e in
      (r.0, appended xs y j (slice_get_within xs j r.0 r.1) ∙ r.1, r.2)

  free_more : (low high : ℕ) → high ≤ length xs → Free c b xs low high → Free c b (xs ++ y ∷ []) low high
  free_more low high few h j x l g at of = h j x l g (sym (appended xs y j (omega (arith, few, g))) ∙ at) of

  covered_more : (low high : ℕ) (s : Span) → high ≤ length xs → Covered c b xs low high s → Covered c b (xs ++ y ∷ []) low high s
  covered_more low high s few h j x l g at of = h j x l g (sym (appended xs y j (omega (arith, few, g))) ∙ at) of

link_more : (c : Chain) (xs : List Row) (y : Row) (k : ℕ) (x : Row) → k < length xs → IsLink c xs k x → IsLink c (xs ++ y ∷ []) k x
link_more c xs y k x few l = record {
  few = l.few;
  further = l.further;
  older = leads_more c (c.bucket x) xs y (c.link x).older l.older;
  jump = leads_more c (c.bucket x) xs y (c.link x).jump l.jump;
  free = free_more c (c.bucket x) xs y (c.link x).older k (omega (arith, few)) l.free;
  covers = covered_more c (c.bucket x) xs y (c.link x).jump (k + 1) (c.link x).span (omega (arith, few)) l.covers;
}

linked_more : (c : Chain) (xs : List Row) (y : Row) → IsLinked c xs → IsLink c (xs ++ y ∷ []) (length xs) y → IsLinked c (xs ++ y ∷ [])
linked_more c xs y all new k x at = elim (either xs y k x at) [
  | inl h ↦ link_more c xs y k x h.0 (all k x h.1)
  | inr h ↦ subst (λ z. IsLink c (xs ++ y ∷ []) k z) h.1 (subst (λ n. IsLink c (xs ++ y ∷ []) n y) (sym h.0) new)
]

-- ---- A new link

within_both : (s t u : Span) → Within s t → Within t u → Within s u
within_both s t u a b = record {
  from = omega (arith, a.from, b.from);
  to = omega (arith, a.to, b.to);
  low = omega (arith, a.low, b.low);
  high = omega (arith, a.high, b.high);
}

-- the link of the last of so many, with what is told of it
record Near (c : Chain) (b : ℕ) (xs : List Row) (left : ℕ) (l : Link) : Type 0 where
  pub some : 0 < left
  pub jump : Leads c b xs l.jump
  pub few : l.jump < left
  pub covers : Covered c b xs l.jump left l.span

abbrev some_link : Link → Option Link → Link
some_link l None = l
some_link l (Some m) = m

abbrev count_link : Option Link → ℕ
count_link None = 0
count_link (Some m) = 1

no_link : (l : Link) → None ≡ Some l → ⊥
no_link l e =
    let h : 0 ≡ 1 = ap count_link e in
    omega (arith, h)

near : (c : Chain) (b : ℕ) (xs : List Row) (left : ℕ) (l : Link) → IsLinked c xs → Leads c b xs left → link_before c xs left ≡ Some l → Near c b xs left l
near c b xs zero l all leads e = absurd (no_link l e)
near c b xs (suc k) l all leads e =
    let r : (x : Row) × (slice_get xs k ≡ Some x) × (c.bucket x ≡ b) = leads k refl in
    let x = r.0 in
    let same : c.link x ≡ l = ap (some_link l) (sym (ap (option_map c.link) r.1) ∙ e) in
    let is : IsLink c xs k x = all k x r.1 in
    let few = is.few in
    let further = is.further in
    subst (λ m. Near c b xs (suc k) m) same (record {
      some = omega arith;
      jump = subst (λ n. Leads c n xs (c.link x).jump) r.2 is.jump;
      few = omega (arith, few, further);
      covers = λ j y lo hi at of. is.covers j y lo (omega (arith, hi)) at (of ∙ sym r.2);
    })

leads_within : (c : Chain) (b : ℕ) (xs : List Row) (left : ℕ) → Leads c b xs left → left ≤ length xs
leads_within c b xs zero h = omega arith
leads_within c b xs (suc k) h = let r = h k refl in let w = slice_get_within xs k r.0 r.1 in omega (arith, w)

module _ (c : Chain) (xs : List Row) (y : Row) (older : ℕ) (all : IsLinked c xs) (leads : Leads c (c.bucket y) xs older) (free : Free c (c.bucket y) xs older (length xs)) where
  abbrev b : ℕ
  b = c.bucket y

  -- what stands behind the last of the bucket is the new one alone
  behind : (s : Span) → Within (c.span y) s → Covered c b (xs ++ y ∷ []) older (length xs + 1) s
  behind s w j x lo hi at of = elim (either xs y j x at) [
    | inl h ↦ absurd (free j x lo h.0 h.1 of)
    | inr h ↦ subst (λ z. Within (c.span z) s) h.1 w
  ]

  two_covered : (low mid high : ℕ) (s : Span) → Covered c b (xs ++ y ∷ []) low mid s → Covered c b (xs ++ y ∷ []) mid high s → Covered c b (xs ++ y ∷ []) low high s
  two_covered low mid high s f g j x lo hi at of = elim (cases_lt j mid) [
    | inl l ↦ f j x lo l at of
    | inr r ↦ g j x r hi at of
  ]

  wider : (low high : ℕ) (s t : Span) → Within s t → Covered c b xs low high s → high ≤ length xs → Covered c b (xs ++ y ∷ []) low high t
  wider low high s t w h few = covered_more c b xs y low high t few (λ j x lo hi at of. within_both (c.span x) s t (h j x lo hi at of) w)

  with_jump : (l : Link) → c.link y ≡ l → l.older ≡ older → l.jump ≤ older → Leads c b xs l.jump → Covered c b (xs ++ y ∷ []) l.jump (length xs + 1) l.span → IsLink c (xs ++ y ∷ []) (length xs) y
  with_jump l e o few jump covers =
      let within : older ≤ length xs = leads_within c b xs older leads in
      let same : (c.link y).older ≡ older = ap (λ (m : Link). m.older) e ∙ o in record {
        few = omega (arith, same, within);
        further = let k : (c.link y).jump ≡ l.jump = ap (λ (m : Link). m.jump) e in omega (arith, same, few, k);
        older = subst (λ n. Leads c b (xs ++ y ∷ []) n) (sym same) (leads_more c b xs y older leads);
        jump = subst (λ (m : Link). Leads c b (xs ++ y ∷ []) m.jump) (sym e) (leads_more c b xs y l.jump jump);
        free = subst (λ n. Free c b (xs ++ y ∷ []) n (length xs)) (sym same) (free_more c b xs y older (length xs) (omega arith) free);
        covers = subst (λ (m : Link). Covered c b (xs ++ y ∷ []) m.jump (length xs + 1) m.span) (sym e) covers;
      }

  by_reach : (l : Link) → c.link y ≡ l → l.older ≡ older → Reaches older (link_before c xs older) (link_behind c xs (link_before c xs older)) (c.span y) l → IsLink c (xs ++ y ∷ []) (length xs) y
  by_reach l e o (alone j w) =
      with_jump l e o (omega (arith, j)) (subst (λ n. Leads c b xs n) (sym j) leads) (subst (λ n. Covered c b (xs ++ y ∷ []) n (length xs + 1) l.span) (sym j) (behind l.span w))
  by_reach l e o (past_both n f is_near is_far j w v u) =
      let p : Near c b xs older n = near c b xs older n all leads is_near in
      let q : Near c b xs n.jump f = near c b xs n.jump f all p.jump (sym (ap (link_behind c xs) is_near) ∙ is_far) in
      let few = p.few in
      let fewer = q.few in
      let within : older ≤ length xs = leads_within c b xs older leads in
      let all_three : Covered c b (xs ++ y ∷ []) f.jump (length xs + 1) l.span =
      two_covered f.jump n.jump (length xs + 1) l.span (wider f.jump n.jump f.span l.span u q.covers (omega (arith, few, within)))
      (two_covered n.jump older (length xs + 1) l.span (wider n.jump older n.span l.span v p.covers within) (behind l.span w)) in
      with_jump l e o (omega (arith, j, few, fewer)) (subst (λ n. Leads c b xs n) (sym j) q.jump) (subst (λ n. Covered c b (xs ++ y ∷ []) n (length xs + 1) l.span) (sym j) all_three)

new_linked : (c : Chain) (xs : List Row) (y : Row) (older : ℕ) → IsLinked c xs → Leads c (c.bucket y) xs older → Free c (c.bucket y) xs older (length xs) → LinksTo c xs older (c.span y) (c.link y) → IsLinked c (xs ++ y ∷ [])
new_linked c xs y older all leads free to = linked_more c xs y all (by_reach c xs y older all leads free (c.link y) refl to.older to.reach)

-- ---- The table

pub none_kept : IsKept [] []
none_kept = record {
  names = λ k x h. absurd (nothing k x h);
  orders = λ k x h. absurd (nothing k x h);
  firsts = λ k x h. absurd (nothing k x h);
  heads = λ b l. (λ j e. absurd (never j e), λ j x lo hi at of. nothing j x at);
  sized = inl refl;
}
  where
    less : (k : ℕ) → k < 0 → ⊥
    less k l = omega (arith, l)

    nothing : (k : ℕ) (x : Row) → slice_get [] k ≡ Some x → ⊥
    nothing k x h = less k (slice_get_within [] k x h)

    never : (j : ℕ) → 0 ≡ suc j → ⊥
    never j e = omega (arith, e)

-- a table that reads the same
pub opened : (xs : List Row) (before table : List ℕ) → IsKept xs before → length table ≡ 65521 → ((b : ℕ) → get_or table b 0 ≡ get_or before b 0) → IsKept xs table
opened xs before table kept size same = record {
  names = kept.names;
  orders = kept.orders;
  firsts = kept.firsts;
  heads = λ b l. subst (λ n. Leads by_name b xs n × Free by_name b xs n (length xs)) (sym (same b)) (kept.heads b l);
  sized = inr size;
}

-- all lead to the last, in the order
order_leads : (xs : List Row) → Leads by_order 0 xs (length xs)
order_leads xs j e = at xs j (omega (arith, e))
  where
    at : (xs : List Row) (j : ℕ) → j < length xs → (x : Row) × (slice_get xs j ≡ Some x) × (by_order.bucket x ≡ 0)
    at [] j l = absurd (none l)
      where
        none : j < 0 → ⊥
        none l = omega (arith, l)
    at (x ∷ xs) zero l = (x, refl, refl)
    at (x ∷ xs) (suc j) l = at xs j (omega (arith, l))

order_free : (xs : List Row) → Free by_order 0 xs (length xs) (length xs)
order_free xs j x lo hi at of = omega (arith, lo, hi)

module _ (xs : List Row) (table : List ℕ) (y : Row) (b count : ℕ) (kept : IsKept xs table) (size : length table ≡ 65521) (is : b ≡ by_name.bucket y) (below : b < 65521) (counted : count ≡ suc (length xs)) where
  head_here : get_or (set table b count) b 0 ≡ suc (length xs)
  head_here = get_or-set_same table b count 0 (omega (arith, size, below)) ∙ counted

  here : (n : ℕ) → n ≡ suc (length xs) → Leads by_name b (xs ++ y ∷ []) n × Free by_name b (xs ++ y ∷ []) n (length (xs ++ y ∷ []))
  here n e = (
    λ j q. (y, ap (slice_get (xs ++ y ∷ [])) (omega (arith, e, q)) ∙ last xs y, sym is),
    λ j x lo hi at of. let m = longer xs y in omega (arith, lo, hi, m, e),
  )

  there : (a : ℕ) → (a ≡ b → ⊥) → (n : ℕ) → Leads by_name a xs n × Free by_name a xs n (length xs) → Leads by_name a (xs ++ y ∷ []) n × Free by_name a (xs ++ y ∷ []) n (length (xs ++ y ∷ []))
  there a other n h = (
    leads_more by_name a xs y n h.0,
    λ j x lo hi at of. elim (either xs y j x at) [
      | inl r ↦ h.1 j x lo r.0 r.1 of
      | inr r ↦ other (sym of ∙ sym (ap by_name.bucket r.1) ∙ sym is)
    ],
  )

  new_heads : (a : ℕ) → a < 65521 → Leads by_name a (xs ++ y ∷ []) (get_or (set table b count) a 0) × Free by_name a (xs ++ y ∷ []) (get_or (set table b count) a 0) (length (xs ++ y ∷ []))
  new_heads a l = elim (cases_eq a b) [
    | inl same ↦ subst (λ z. Leads by_name z (xs ++ y ∷ []) (get_or (set table b count) z 0) × Free by_name z (xs ++ y ∷ []) (get_or (set table b count) z 0) (length (xs ++ y ∷ []))) (sym same) (here (get_or (set table b count) b 0) head_here)
    | inr other ↦ subst (λ n. Leads by_name a (xs ++ y ∷ []) n × Free by_name a (xs ++ y ∷ []) n (length (xs ++ y ∷ []))) (sym (get_or-set_other table b a count 0 other)) (there a other (get_or table a 0) (kept.heads a l))
  ]

  new_firsts : y.first ≤ length (entries_of xs) → IsFirst xs y → (k : ℕ) (x : Row) → slice_get (xs ++ y ∷ []) k ≡ Some x → IsFirst (xs ++ y ∷ []) x
  new_firsts few first k x at = elim (either xs y k x at) [
    | inl h ↦ first_more xs y k x h.1 (kept.firsts k x h.1)
    | inr h ↦ subst (λ z. IsFirst (xs ++ y ∷ []) z) h.1 (first_last xs y few first)
  ]

  pub added : LinksTo by_name xs (get_or table b 0) (name_span y.entry) y.name → LinksTo by_order xs (length xs) (order_span y.entry) y.order → y.first ≤ length (entries_of xs) → IsFirst xs y → IsKept (xs ++ y ∷ []) (set table b count)
  added name order few first =
      let h = kept.heads b below in record {
        names = new_linked by_name xs y (get_or table b 0) kept.names (subst (λ z. Leads by_name z xs (get_or table b 0)) is h.0) (subst (λ z. Free by_name z xs (get_or table b 0) (length xs)) is h.1) name;
        orders = new_linked by_order xs y (length xs) kept.orders (order_leads xs) (order_free xs) order;
        firsts = new_firsts few first;
        heads = new_heads;
        sized = inr (length-set table b count ∙ size);
      }
