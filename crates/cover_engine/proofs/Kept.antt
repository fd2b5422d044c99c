-- What an unwinding keeps, through each unit.
use Rattle.std.proofs.Common.{◌≡◌, ℕ, ◌+◌, ◌<◌, ◌≤◌, Bool, true, false, cond, List, [], ◌∷◌, ◌++◌, length, Option, Some, None, inl, inr, refl, sym, ap, ◌∙◌, subst, arith, suc, get_or, replicate, nat_eq, eq-eqb, ◌||◌, ◌&&◌, length-append}
use Rattle.std.specs.List.{All}
use Rattle.std.specs.HashMap.{get, HashMap, Updates}
use Rattle.std.specs.declared.hash.FoldHasher.{FoldHasher}
use Rattle.std.specs.declared.hash.BuildHasherDefault.{BuildHasherDefault}
use Rattle.std.proofs.lemmas.Bool.{cases_Bool, and_parts, eqb-true}
use Rattle.std.proofs.lemmas.List.Elements.{All-push}
use Rattle.bv_term.specs.declared.term.TermId.{TermId}
use Rattle.bv_term.specs.WellFormed.{Table}
use Rattle.c_graph.specs.Shape.{Flow, outs}
use Rattle.reach_tree.specs.declared.vertex.VertexId.{VertexId}
use Rattle.reach_tree.specs.declared.vertex.Vertex.{Vertex}
use Rattle.reach_tree.specs.Trees.{expanded, vertex_at}
use Rattle.cover_engine.specs.declared.unit.Apart.{Apart}
use Rattle.cover_engine.specs.declared.unit.UnitDone.{UnitDone}
use Rattle.cover_engine.specs.declared.unit.UnitDone.TheVariants.{Expand, Refine, CoverYes, CoverNo}
use Rattle.cover_engine.specs.declared.settling.Sides.{Sides}
use Rattle.cover_engine.specs.declared.settling.Settling.{Settling}
use Rattle.cover_engine.specs.Unwindings.{Pair, path_of, same}
use Rattle.cover_engine.specs.Units.{apart_now, pairs_but_onto, pairs_but_under, refined_along, strengthened_along}
use Rattle.cover_engine.specs.Caches.{AreCovers, AreInside, SameShape, below, below_lefts, covers, pairs_onto, pairs_under, times}
use Rattle.cover_engine.specs.Settlings.{AreSettlings, AtMost, IsPast, apart_of, covered_at, covered_of, is_at, is_of, last_apart, parted_at, same_sides, sides, version_at, versions_of, was_covered}
use Rattle.cover_engine.specs.Keeping.{IsKept}
use Rattle.cover_engine.proofs.Counting.{all_but_onto, all_but_under, all_onto, all_under, counts_shape, covers_onto, covers_under, enough, family_shape, few_onto, few_under, lefts_inside, lowered, raised, room}
use Rattle.cover_engine.proofs.Subtrees.{below_inside}
use Rattle.cover_engine.proofs.Growing.{Grown, counts_grown, family_grown, grown, inside_grown}
use Rattle.cover_engine.proofs.LastSettled.{last_append, past_rises, refines_append, rising_more, yes_append}
use Rattle.cover_engine.proofs.Labelling.{Falls, path_falls, refined_shape, refined_versions}

abbrev pub Settled : Type 0
Settled = HashMap Sides Settling (BuildHasherDefault FoldHasher)

-- the settlings

at_most_wider : (o : Option ℕ) (m n : ℕ) → m ≤ n → AtMost o m → AtMost o n
at_most_wider None m n le h = tt
at_most_wider (Some k) m n le h = omega (arith, h, le)

not_later : (o : Option Settling) (m n : ℕ) → m < n → AtMost (covered_of o) m → was_covered o n ≡ false
not_later None m n lt h = refl
not_later (Some s) m n lt h = by s.covered h
  where
    by : (c : Option ℕ) → AtMost c m → is_at c n ≡ false
    by None h = refl
    by (Some k) h = elim (cases_Bool (nat_eq k n)) [ inl y ↦ absurd (omega (arith, h, lt, eqb-true k n y)) | inr x ↦ x ]

-- a unit that settles nothing and is no Refine
settlings_expand : (vs ws : List Vertex) (js : List UnitDone) (others : List Apart) (r : ℕ) (m : Settled) (v : VertexId) → ((k : ℕ) → version_at vs k ≤ version_at ws k)
    → AreSettlings vs js others r m → AreSettlings ws (js ++ Expand v ∷ []) others r m
settlings_expand vs ws js others r m v up s = record {
  number = s.number ∙ omega (arith, refines_append js (Expand v));
  yes = λ x y. s.yes x y ∙ sym (yes_append false js (Expand v) x y);
  past = s.past;
  apart = s.apart;
  rising = s.rising;
  entries = past_rises vs ws others up s.entries;
}

settlings_refine : (vs ws : List Vertex) (js : List UnitDone) (others : List Apart) (r : ℕ) (m : Settled) (v : VertexId) (fs : List TermId) → ((k : ℕ) → version_at vs k ≤ version_at ws k)
    → AreSettlings vs js others r m → AreSettlings ws (js ++ Refine v fs ∷ []) others (r + 1) m
settlings_refine vs ws js others r m v fs up s = record {
  number = omega (arith, s.number, refines_append js (Refine v fs));
  yes = λ x y. not_later (get same_sides m (sides x y)) r (r + 1) (omega arith) (s.past (sides x y)) ∙ sym (yes_append false js (Refine v fs) x y);
  past = λ q. at_most_wider (covered_of (get same_sides m q)) r (r + 1) (omega arith) (s.past q);
  apart = s.apart;
  rising = s.rising;
  entries = past_rises vs ws others up s.entries;
}

at_refl : (n : ℕ) → nat_eq n n ≡ true
at_refl n = eq-eqb n n refl

or_right : (b : Bool) → b || true ≡ true
or_right true = refl
or_right false = refl

or_false : (b : Bool) → b || false ≡ b
or_false true = refl
or_false false = refl

same_vertex : (v w : VertexId) → v.0 ≡ w.0 → v ≡ w
same_vertex v w e = ap (λ (k : ℕ). let r : VertexId = record { 0 = k } in r) e

-- what holds of a pair holds of one with the same sides
same_pair : (v w x y : VertexId) → same_sides (sides v w) (sides x y) ≡ true → (P : VertexId → VertexId → Type 0) → P v w → P x y
same_pair v w x y e P h =
    let p = and_parts (nat_eq v.0 x.0) (nat_eq w.0 y.0) e in
    let a : v ≡ x = same_vertex v x (eqb-true v.0 x.0 p.0) in
    let b : w ≡ y = same_vertex w y (eqb-true w.0 y.0 p.1) in
    subst (λ (j : VertexId). P x j) b (subst (λ (i : VertexId). P i w) a h)

settlings_cover : (vs : List Vertex) (js : List UnitDone) (others : List Apart) (r : ℕ) (m n : Settled) (v w : VertexId)
    → Updates same_sides m n (sides v w) (Some (covered_at (get same_sides m (sides v w)) r))
    → AreSettlings vs js others r m → AreSettlings vs (js ++ CoverYes v w ∷ []) others r n
settlings_cover vs js others r m n v w u s = record {
  number = s.number ∙ omega (arith, refines_append js (CoverYes v w));
  yes = λ x y. (ap (λ (o : Option Settling). was_covered o r) (u.0 (sides x y)) ∙ yes_at x y (same_sides (sides v w) (sides x y)) ∙ ap (λ (b : Bool). b || (same v x && same w y)) (s.yes x y) ∙ sym (yes_append false js (CoverYes v w) x y));
  past = λ q. subst (λ (o : Option Settling). AtMost (covered_of o) r) (sym (u.0 q)) (past_at q (same_sides (sides v w) q));
  apart = λ x y. ap apart_of (u.0 (sides x y)) ∙ apart_at x y (same_sides (sides v w) (sides x y)) refl;
  rising = s.rising;
  entries = s.entries;
}
  where
    new : Option Settling
    new = Some (covered_at (get same_sides m (sides v w)) r)

    yes_at : (x y : VertexId) (b : Bool) → was_covered (cond b (Some (covered_at (get same_sides m (sides v w)) r)) (get same_sides m (sides x y))) r ≡ was_covered (get same_sides m (sides x y)) r || b
    yes_at x y true = at_refl r ∙ sym (or_right (was_covered (get same_sides m (sides x y)) r))
    yes_at x y false = sym (or_false (was_covered (get same_sides m (sides x y)) r))

    past_at : (q : Sides) (b : Bool) → AtMost (covered_of (cond b (Some (covered_at (get same_sides m (sides v w)) r)) (get same_sides m q))) r
    past_at q true = omega arith
    past_at q false = s.past q

    apart_at : (x y : VertexId) (b : Bool) → same_sides (sides v w) (sides x y) ≡ b → apart_of (cond b (Some (covered_at (get same_sides m (sides v w)) r)) (get same_sides m (sides x y))) ≡ last_apart others x y
    apart_at x y false e = s.apart x y
    apart_at x y true e = same_pair v w x y e (λ (i j : VertexId). apart_of (get same_sides m (sides v w)) ≡ last_apart others i j) (s.apart v w)

settlings_part : (vs : List Vertex) (js : List UnitDone) (others : List Apart) (r : ℕ) (m n : Settled) (v w : VertexId) (store : List ℕ) (entry : Apart) → entry ≡ apart_now vs v w
    → Updates same_sides m n (sides v w) (Some (parted_at (get same_sides m (sides v w)) (versions_of entry)))
    → AreSettlings vs js others r m → AreSettlings vs (js ++ CoverNo v w store ∷ []) (others ++ entry ∷ []) r n
settlings_part vs js others r m n v w store entry is u s = record {
  number = s.number ∙ omega (arith, refines_append js (CoverNo v w store));
  yes = λ x y. ap (λ (o : Option Settling). was_covered o r) (u.0 (sides x y)) ∙ yes_at x y (same_sides (sides v w) (sides x y)) refl ∙ s.yes x y ∙ sym (yes_append false js (CoverNo v w store) x y);
  past = λ q. subst (λ (o : Option Settling). AtMost (covered_of o) r) (sym (u.0 q)) (past_at q (same_sides (sides v w) q));
  apart = λ x y. ap apart_of (u.0 (sides x y)) ∙ apart_at x y (same_sides (sides v w) (sides x y)) ∙ sym (last_append others entry x y ∙ ap (λ (a : Apart). cond (is_of a x y) (Some (versions_of entry)) (last_apart others x y)) is);
  rising = rising_more vs others entry s.rising s.entries left right;
  entries = All-push (IsPast vs) others entry s.entries (omega (arith, left), omega (arith, right));
}
  where
    left : entry.left_version ≡ version_at vs entry.left.0
    left = subst (λ (a : Apart). a.left_version ≡ version_at vs a.left.0) (sym is) refl

    right : entry.right_version ≡ version_at vs entry.right.0
    right = subst (λ (a : Apart). a.right_version ≡ version_at vs a.right.0) (sym is) refl

    old : Option Settling
    old = get same_sides m (sides v w)

    yes_at : (x y : VertexId) (b : Bool) → same_sides (sides v w) (sides x y) ≡ b → was_covered (cond b (Some (parted_at (get same_sides m (sides v w)) (versions_of entry))) (get same_sides m (sides x y))) r ≡ was_covered (get same_sides m (sides x y)) r
    yes_at x y false e = refl
    yes_at x y true e = same_pair v w x y e (λ (i j : VertexId). was_covered (Some (parted_at (get same_sides m (sides v w)) (versions_of entry))) r ≡ was_covered (get same_sides m (sides i j)) r) (kept_covered (get same_sides m (sides v w)))
      where
        kept_covered : (o : Option Settling) → was_covered (Some (parted_at o (versions_of entry))) r ≡ was_covered o r
        kept_covered None = refl
        kept_covered (Some k) = refl

    past_at : (q : Sides) (b : Bool) → AtMost (covered_of (cond b (Some (parted_at (get same_sides m (sides v w)) (versions_of entry))) (get same_sides m q))) r
    past_at q true = s.past (sides v w)
    past_at q false = s.past q

    apart_at : (x y : VertexId) (b : Bool) → apart_of (cond b (Some (parted_at (get same_sides m (sides v w)) (versions_of entry))) (get same_sides m (sides x y))) ≡ cond b (Some (versions_of entry)) (last_apart others x y)
    apart_at x y true = refl
    apart_at x y false = s.apart x y

-- the whole

pub kept_expanded : (g : Flow) (vs ws : List Vertex) (ps : List Pair) (js ks : List UnitDone) (others : List Apart) (counts new : List ℕ) (r n k : ℕ) (m : Settled) (v : VertexId)
    → IsKept vs ps js others counts r m → v.0 < length vs → (vertex_at vs v.0).children ≡ [] → length js < 4294967295
    → ws ≡ expanded g vs v → ks ≡ js ++ Expand v ∷ [] → new ≡ counts ++ replicate k n → k ≡ length (outs g (vertex_at vs v.0).node) → n ≡ get_or counts v.0 0
    → IsKept ws ps ks others new r m
kept_expanded g vs ws ps js ks others counts new r n k m v h lv none room is ends cs ks' at =
    subst (λ (us : List Vertex). IsKept us ps ks others new r m) (sym is) (subst (λ (us : List UnitDone). IsKept (expanded g vs v) ps us others new r m) (sym ends) (
    let gr : Grown vs (expanded g vs v) v k = subst (Grown vs (expanded g vs v) v) (sym ks') (grown g vs v lv) in
    record {
      family = family_grown vs (expanded g vs v) v k lv none gr h.family;
      inside = inside_grown vs (expanded g vs v) ps (omega (arith, gr.sized)) h.inside;
      counts_are = counts_grown vs (expanded g vs v) v k n gr h.family lv ps h.inside counts new cs at h.counts_are;
      few = omega (arith, room, length-append js (Expand v ∷ []));
      fewer = omega (arith, h.fewer, length-append js (Expand v ∷ []));
      versions = λ j. omega (arith, gr.version j, h.versions j, length-append js (Expand v ∷ []));
      settlings = settlings_expand vs (expanded g vs v) js others r m v (λ j. omega (arith, gr.version j)) h.settlings;
    }))

pub kept_refined : (table : Table) (vs ws : List Vertex) (ps kept fallen : List Pair) (js ks : List UnitDone) (others : List Apart) (counts new drops : List ℕ) (r : ℕ) (m : Settled) (v : VertexId) (fs up : List TermId)
    → IsKept vs ps js others counts r m → v.0 < length vs → length js < 4294967295
    → ws ≡ refined_along table vs (path_of vs v) up → ks ≡ js ++ Refine v fs ∷ []
    → kept ≡ pairs_but_onto (strengthened_along table vs (path_of vs v) up) ps → fallen ≡ pairs_onto (strengthened_along table vs (path_of vs v) up) ps
    → drops ≡ below_lefts vs fallen → length new ≡ length counts → ((z : ℕ) → z < length counts → get_or new z 0 + times z drops ≡ get_or counts z 0)
    → IsKept ws kept ks others new (r + 1) m
kept_refined table vs ws ps kept fallen js ks others counts new drops r m v fs up h lv room is ends ke fa ds sized low =
    let path : List ℕ = path_of vs v in
    let list : List ℕ = strengthened_along table vs (path_of vs v) up in
    let after : List Vertex = refined_along table vs (path_of vs v) up in
    let shape : SameShape vs after = refined_shape table vs (path_of vs v) up in
    let falls : Falls (suc v.0) (path_of vs v) = path_falls vs h.family (length vs) v.0 lv in
    let raise' = refined_versions table vs (path_of vs v) up (suc v.0) falls in
    let insides : AreInside vs fallen = subst (AreInside vs) (sym fa) (all_onto (λ p. (p.0.0 < length vs) × (p.1.0 < length vs)) list ps h.inside) in
    let inside' : AreInside vs kept = subst (AreInside vs) (sym ke) (all_but_onto (λ p. (p.0.0 < length vs) × (p.1.0 < length vs)) list ps h.inside) in
    let split : (z : ℕ) → covers vs ps z ≡ covers vs kept z + covers vs fallen z = λ z. covers_onto vs list ps z ∙ ap (λ (qs : List Pair). covers vs qs z + covers vs (pairs_onto list ps) z) (sym ke) ∙ ap (λ (qs : List Pair). covers vs kept z + covers vs qs z) (sym fa) in
    let count : AreCovers vs kept new = lowered vs h.family ps kept fallen counts new drops split insides ds h.counts_are sized low in
    let one : length (js ++ Refine v fs ∷ []) ≡ length js + 1 = length-append js (Refine v fs ∷ []) in
    let fewer' : length kept ≤ length ps = subst (λ (qs : List Pair). length qs ≤ length ps) (sym ke) (few_onto list ps) in
    subst (λ (us : List Vertex). IsKept us kept ks others new (r + 1) m) (sym is) (subst (λ (us : List UnitDone). IsKept after kept us others new (r + 1) m) (sym ends) (record {
      family = family_shape vs after shape h.family;
      inside = λ k d lt. let a = inside' k d lt in (omega (arith, a.0, shape.sized), omega (arith, a.1, shape.sized));
      counts_are = counts_shape vs after shape kept new count;
      few = omega (arith, room, one);
      fewer = omega (arith, h.fewer, fewer', one);
      versions = λ k. omega (arith, (raise' k).1, h.versions k, one);
      settlings = settlings_refine vs after js others r m v fs (λ k. (raise' k).0) h.settlings;
    }))

pub kept_covered : (vs : List Vertex) (ps kept fallen : List Pair) (js ks : List UnitDone) (others : List Apart) (counts mid new drops rises : List ℕ) (r : ℕ) (m n : Settled) (v w : VertexId)
    → IsKept vs ps js others counts r m → v.0 < length vs → w.0 < length vs → length js < 4294967295
    → ks ≡ js ++ CoverYes v w ∷ [] → kept ≡ pairs_but_under vs v ps ++ (v, w) ∷ [] → fallen ≡ pairs_under vs v ps
    → drops ≡ below_lefts vs fallen → length mid ≡ length counts → ((z : ℕ) → z < length counts → get_or mid z 0 + times z drops ≡ get_or counts z 0)
    → rises ≡ below vs v.0 → length new ≡ length mid → ((z : ℕ) → z < length mid → get_or new z 0 ≡ get_or mid z 0 + times z rises)
    → Updates same_sides m n (sides v w) (Some (covered_at (get same_sides m (sides v w)) r))
    → IsKept vs kept ks others new r n
kept_covered vs ps kept fallen js ks others counts mid new drops rises r m n v w h lv lw room ends ke fa ds sized low rs sized2 high u =
    let stay : List Pair = pairs_but_under vs v ps in
    let insides : AreInside vs fallen = subst (AreInside vs) (sym fa) (all_under (λ p. (p.0.0 < length vs) × (p.1.0 < length vs)) vs v ps h.inside) in
    let inside' : AreInside vs stay = all_but_under (λ p. (p.0.0 < length vs) × (p.1.0 < length vs)) vs v ps h.inside in
    let split : (z : ℕ) → covers vs ps z ≡ covers vs stay z + covers vs fallen z = λ z. covers_under vs v ps z ∙ ap (λ (qs : List Pair). covers vs stay z + covers vs qs z) (sym fa) in
    let first : AreCovers vs stay mid = lowered vs h.family ps stay fallen counts mid drops split insides ds h.counts_are sized low in
    let one : length (js ++ CoverYes v w ∷ []) ≡ length js + 1 = length-append js (CoverYes v w ∷ []) in
    subst (λ (qs : List Pair). IsKept vs qs ks others new r n) (sym ke) (subst (λ (us : List UnitDone). IsKept vs (stay ++ (v, w) ∷ []) us others new r n) (sym ends) (record {
      family = h.family;
      inside = All-push (λ p. (p.0.0 < length vs) × (p.1.0 < length vs)) stay (v, w) inside' (lv, lw);
      counts_are = raised vs h.family stay v w mid new rises lv rs first sized2 high;
      few = omega (arith, room, one);
      fewer = omega (arith, h.fewer, few_under vs v ps, one, length-append stay ((v, w) ∷ []));
      versions = λ k. omega (arith, h.versions k, one);
      settlings = settlings_cover vs js others r m n v w u h.settlings;
    }))

pub kept_parted : (vs : List Vertex) (ps : List Pair) (js ks : List UnitDone) (others more : List Apart) (counts : List ℕ) (r : ℕ) (m n : Settled) (v w : VertexId) (store : List ℕ) (entry : Apart)
    → IsKept vs ps js others counts r m → length js < 4294967295 → ks ≡ js ++ CoverNo v w store ∷ [] → more ≡ others ++ entry ∷ [] → entry ≡ apart_now vs v w
    → Updates same_sides m n (sides v w) (Some (parted_at (get same_sides m (sides v w)) (versions_of entry)))
    → IsKept vs ps ks more counts r n
kept_parted vs ps js ks others more counts r m n v w store entry h room ends mo is u =
    let one : length (js ++ CoverNo v w store ∷ []) ≡ length js + 1 = length-append js (CoverNo v w store ∷ []) in
    subst (λ (us : List UnitDone). IsKept vs ps us more counts r n) (sym ends) (subst (λ (es : List Apart). IsKept vs ps (js ++ CoverNo v w store ∷ []) es counts r n) (sym mo) (record {
      family = h.family;
      inside = h.inside;
      counts_are = h.counts_are;
      few = omega (arith, room, one);
      fewer = omega (arith, h.fewer, one);
      versions = λ k. omega (arith, h.versions k, one);
      settlings = settlings_part vs js others r m n v w store entry is u h.settlings;
    }))

-- a map that finds the same serves as well
pub kept_same : (vs : List Vertex) (ps : List Pair) (js : List UnitDone) (others : List Apart) (counts : List ℕ) (r : ℕ) (m n : Settled) → ((q : Sides) → get same_sides n q ≡ get same_sides m q)
    → IsKept vs ps js others counts r m → IsKept vs ps js others counts r n
kept_same vs ps js others counts r m n e h = record {
  family = h.family;
  inside = h.inside;
  counts_are = h.counts_are;
  few = h.few;
  fewer = h.fewer;
  versions = h.versions;
  settlings = record {
    number = h.settlings.number;
    yes = λ v w. ap (λ (o : Option Settling). was_covered o r) (e (sides v w)) ∙ h.settlings.yes v w;
    past = λ q. subst (λ (o : Option Settling). AtMost (covered_of o) r) (sym (e q)) (h.settlings.past q);
    apart = λ v w. ap apart_of (e (sides v w)) ∙ h.settlings.apart v w;
    rising = h.settlings.rising;
    entries = h.settlings.entries;
  };
}

pub kept_undone : (vs : List Vertex) (ps : List Pair) (js ks : List UnitDone) (others same' : List Apart) (counts : List ℕ) (r : ℕ) (m n : Settled) → ks ≡ js → same' ≡ others → ((q : Sides) → get same_sides n q ≡ get same_sides m q)
    → IsKept vs ps js others counts r m → IsKept vs ps ks same' counts r n
kept_undone vs ps js ks others same' counts r m n a b e h =
    subst (λ (us : List UnitDone). IsKept vs ps us same' counts r n) (sym a) (subst (λ (es : List Apart). IsKept vs ps js es counts r n) (sym b) (kept_same vs ps js others counts r m n e h))

-- what was put into the map
pub noted_apart : (m n : Settled) (v w : VertexId) (q : Sides) (s : Settling) (o : Option Settling) (entry : Apart) → q ≡ sides v w → o ≡ get same_sides m q → s ≡ parted_at o (versions_of entry)
    → Updates same_sides m n q (Some s) → Updates same_sides m n (sides v w) (Some (parted_at (get same_sides m (sides v w)) (versions_of entry)))
noted_apart m n v w q s o entry is found made u =
    subst (λ (k : Sides). Updates same_sides m n k (Some (parted_at (get same_sides m k) (versions_of entry)))) is
    (subst (λ (k : Settling). Updates same_sides m n q (Some k)) (made ∙ ap (λ (p : Option Settling). parted_at p (versions_of entry)) found) u)

pub noted_covered : (m n : Settled) (v w : VertexId) (q : Sides) (s : Settling) (o : Option Settling) (r : ℕ) → q ≡ sides v w → o ≡ get same_sides m q → s ≡ covered_at o r
    → Updates same_sides m n q (Some s) → Updates same_sides m n (sides v w) (Some (covered_at (get same_sides m (sides v w)) r))
noted_covered m n v w q s o r is found made u =
    subst (λ (k : Sides). Updates same_sides m n k (Some (covered_at (get same_sides m k) r))) is
    (subst (λ (k : Settling). Updates same_sides m n q (Some k)) (made ∙ ap (λ (p : Option Settling). covered_at p r) found) u)

-- what a unit asks of its counts

module _ (vs : List Vertex) (ps : List Pair) (js : List UnitDone) (others : List Apart) (counts : List ℕ) (r : ℕ) (m : Settled) (h : IsKept vs ps js others counts r m) where
  inside_all : (n : ℕ) (xs ys : List ℕ) → xs ≡ ys → n ≡ length vs → All (λ d. d < length vs) ys → All (λ d. d < n) xs
  inside_all n xs ys is sized all = subst (λ (zs : List ℕ). All (λ d. d < n) zs) (sym is) (subst (λ (k : ℕ). All (λ d. d < k) ys) (sym sized) all)

  under_inside : (v : VertexId) → AreInside vs (pairs_under vs v ps)
  under_inside v = all_under (λ p. (p.0.0 < length vs) × (p.1.0 < length vs)) vs v ps h.inside

  onto_inside : (ws : List ℕ) → AreInside vs (pairs_onto ws ps)
  onto_inside ws = all_onto (λ p. (p.0.0 < length vs) × (p.1.0 < length vs)) ws ps h.inside

  pub cover_lowers : (v : VertexId) (drops : List ℕ) → drops ≡ below_lefts vs (pairs_under vs v ps) → All (λ d. d < length counts) drops
  cover_lowers v drops is = inside_all (length counts) drops (below_lefts vs (pairs_under vs v ps)) is h.counts_are.sized (lefts_inside vs h.family (pairs_under vs v ps) (under_inside v))

  pub cover_enough : (v : VertexId) (drops : List ℕ) → drops ≡ below_lefts vs (pairs_under vs v ps) → (z : ℕ) → z < length counts → times z drops ≤ get_or counts z 0
  cover_enough v drops is = enough vs h.family ps (pairs_but_under vs v ps) (pairs_under vs v ps) counts drops (covers_under vs v ps) (under_inside v) is h.counts_are

  pub cover_raises : (v : ℕ) (rises mid : List ℕ) → v < length vs → rises ≡ below vs v → length mid ≡ length counts → All (λ d. d < length mid) rises
  cover_raises v rises mid lv is sized = inside_all (length mid) rises (below vs v) is (sized ∙ h.counts_are.sized) (below_inside vs h.family v lv)

  pub cover_room : (v : VertexId) (drops rises mid : List ℕ) → v.0 < length vs → length js < 4294967295 → drops ≡ below_lefts vs (pairs_under vs v ps) → rises ≡ below vs v.0
      → length mid ≡ length counts → ((z : ℕ) → z < length counts → get_or mid z 0 + times z drops ≡ get_or counts z 0) → (z : ℕ) → z < length mid → get_or mid z 0 + times z rises ≤ 4294967295
  cover_room v drops rises mid lv few ds rs sized low =
      room vs h.family (pairs_but_under vs v ps) v.0 mid rises 4294967295 lv rs
      (lowered vs h.family ps (pairs_but_under vs v ps) (pairs_under vs v ps) counts mid drops (covers_under vs v ps) (under_inside v) ds h.counts_are sized low)
      (omega (arith, few, h.fewer, few_under vs v ps))

  pub refine_lowers : (ws drops : List ℕ) → drops ≡ below_lefts vs (pairs_onto ws ps) → All (λ d. d < length counts) drops
  refine_lowers ws drops is = inside_all (length counts) drops (below_lefts vs (pairs_onto ws ps)) is h.counts_are.sized (lefts_inside vs h.family (pairs_onto ws ps) (onto_inside ws))

  pub refine_enough : (ws drops : List ℕ) → drops ≡ below_lefts vs (pairs_onto ws ps) → (z : ℕ) → z < length counts → times z drops ≤ get_or counts z 0
  refine_enough ws drops is = enough vs h.family ps (pairs_but_onto ws ps) (pairs_onto ws ps) counts drops (covers_onto vs ws ps) (onto_inside ws) is h.counts_are
