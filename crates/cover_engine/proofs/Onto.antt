-- How many pairs are onto each vertex, and how that changes with the pairs.
use Rattle.std.proofs.Common.{◌≡◌, ℕ, ◌+◌, ◌-◌, ◌<◌, ◌≤◌, Bool, true, false, List, [], ◌∷◌, ◌++◌, length, drop, set, inl, inr, refl, sym, ap, ◌∙◌, subst, arith, zero, suc, get_or, nat_eq, nat_lt, eq-eqb, ◌||◌, ◌⊎◌, if◌then◌else◌}
use Rattle.std.specs.List.{All}
use Rattle.std.proofs.lemmas.Bool.{eqb-true, lt-ltb, ne_eqb, cases_Bool, cases_eq, cases_lt}
use Rattle.std.proofs.lemmas.List.{drop_more, get_or_past, get_or-set_same, get_or-set_other}
use Rattle.reach_tree.specs.declared.vertex.VertexId.{VertexId}
use Rattle.reach_tree.specs.declared.vertex.Vertex.{Vertex}
use Rattle.cover_engine.specs.Unwindings.{Pair, has, path_of, path_up}
use Rattle.cover_engine.specs.Units.{pairs_but_onto, pairs_but_under}
use Rattle.cover_engine.specs.Caches.{AreInside, AreOnto, IsFamily, below, bit, lead_onto, pairs_onto, pairs_under, rights, times}
use Rattle.cover_engine.proofs.Counting.{eq_turned}
use Rattle.std.proofs.lemmas.Grind.{get_or_default_zero}
use Rattle.cover_engine.proofs.Subtrees.{below_times, bit_small}

pub rights_push : (ps : List Pair) (p : Pair) (z : ℕ) → times z (rights (ps ++ p ∷ [])) ≡ times z (rights ps) + bit (nat_eq z p.1.0)
rights_push [] p z = omega arith
rights_push (q ∷ ps) p z = omega (arith, rights_push ps p z)

-- those that stay and those that fall
pub rights_under : (vs : List Vertex) (v : VertexId) (ps : List Pair) (z : ℕ) → times z (rights ps) ≡ times z (rights (pairs_but_under vs v ps)) + times z (rights (pairs_under vs v ps))
rights_under vs v [] z = refl
rights_under vs v (p ∷ ps) z = by (has v.0 (path_of vs p.1)) (rights_under vs v ps z)
  where
    by : (b : Bool) → times z (rights ps) ≡ times z (rights (pairs_but_under vs v ps)) + times z (rights (pairs_under vs v ps))
        → times z (rights (p ∷ ps)) ≡ times z (rights (if b then pairs_but_under vs v ps else p ∷ pairs_but_under vs v ps)) + times z (rights (if b then p ∷ pairs_under vs v ps else pairs_under vs v ps))
    by true ih = omega (arith, ih)
    by false ih = omega (arith, ih)

pub rights_onto : (ws : List ℕ) (ps : List Pair) (z : ℕ) → times z (rights ps) ≡ times z (rights (pairs_but_onto ws ps)) + times z (rights (pairs_onto ws ps))
rights_onto ws [] z = refl
rights_onto ws (p ∷ ps) z = by (has p.1.0 ws) (rights_onto ws ps z)
  where
    by : (b : Bool) → times z (rights ps) ≡ times z (rights (pairs_but_onto ws ps)) + times z (rights (pairs_onto ws ps))
        → times z (rights (p ∷ ps)) ≡ times z (rights (if b then pairs_but_onto ws ps else p ∷ pairs_but_onto ws ps)) + times z (rights (if b then p ∷ pairs_onto ws ps else pairs_onto ws ps))
    by true ih = omega (arith, ih)
    by false ih = omega (arith, ih)

-- a number that stands in a list is one of it
times_has : (z : ℕ) (xs : List ℕ) → 0 < times z xs → has z xs ≡ true
times_has z [] lt = absurd (omega (arith, lt))
times_has z (x ∷ xs) lt = by (nat_eq z x) refl (times_has z xs)
  where
    by : (b : Bool) → nat_eq z x ≡ b → (0 < times z xs → has z xs ≡ true) → (nat_eq x z || has z xs) ≡ true
    by true e ih = rw (eq_turned x z ∙ e) refl
    by false e ih = let rest : has z xs ≡ true = ih (omega (arith, lt, ap bit e)) in rw (eq_turned x z ∙ e) rest

-- onto a vertex of a list to which no pair leads there is none
led_nowhere : (ps : List Pair) (z : ℕ) (xs : List ℕ) → has z xs ≡ true → lead_onto ps xs ≡ false → times z (rights ps) ≡ 0
led_nowhere ps z [] h e = absurd (cc)
led_nowhere ps z (x ∷ xs) h e = by (cases_Bool (nat_eq x z)) (led_nowhere ps z xs)
  where
    first : (a b : Bool) → (a || b) ≡ false → a ≡ false
    first true b e = absurd (cc)
    first false b e = refl

    second : (a b : Bool) → (a || b) ≡ false → b ≡ false
    second true b e = absurd (cc)
    second false b e = e

    none : (n : ℕ) → nat_lt 0 n ≡ false → n ≡ 0
    none zero e = refl
    none (suc n) e = let f : nat_lt 0 (suc n) ≡ true = lt-ltb 0 (suc n) (omega arith) in absurd (cc)

    right : (a b : Bool) → a ≡ false → (a || b) ≡ true → b ≡ true
    right true b x e = absurd (cc)
    right false b x e = e

    by : (nat_eq x z ≡ true) ⊎ (nat_eq x z ≡ false) → (has z xs ≡ true → lead_onto ps xs ≡ false → times z (rights ps) ≡ 0) → times z (rights ps) ≡ 0
    by (inl is) ih = let same : x ≡ z = eqb-true x z is in subst (λ (k : ℕ). times k (rights ps) ≡ 0) same (none (times x (rights ps)) (first _ _ e))
    by (inr ne) ih = ih (right (nat_eq x z) (has z xs) ne h) (second _ _ e)

-- the first pair is onto its right side
first_onto : (p : Pair) (ps : List Pair) → times p.1.0 (rights (p ∷ ps)) ≡ 0 → ⊥
first_onto p ps e = let same : nat_eq p.1.0 p.1.0 ≡ true = eq-eqb p.1.0 p.1.0 refl in omega (arith, e, ap bit same)

pub none_under : (vs : List Vertex) (v : VertexId) → IsFamily vs → v.0 < length vs → (ps : List Pair) → AreInside vs ps → lead_onto ps (below vs v.0) ≡ false → pairs_under vs v ps ≡ []
none_under vs v f lv ps inside none =
    falls ps inside (λ z lz on. led_nowhere ps z (below vs v.0) (times_has z (below vs v.0) (omega (arith, below_times vs f v.0 z lv lz, ap bit on))) none)
  where
    falls : (qs : List Pair) → AreInside vs qs → ((z : ℕ) → z < length vs → has v.0 (path_up vs (length vs) z) ≡ true → times z (rights qs) ≡ 0) → pairs_under vs v qs ≡ []
    falls [] i h = refl
    falls (q ∷ qs) i h = by (has v.0 (path_of vs q.1)) refl (falls qs (λ k d lt. i (suc k) d (omega (arith, lt))) (λ z lz on. omega (arith, h z lz on)))
      where
        by : (b : Bool) → has v.0 (path_of vs q.1) ≡ b → pairs_under vs v qs ≡ [] → (if b then q ∷ pairs_under vs v qs else pairs_under vs v qs) ≡ []
        by true e ih = absurd (first_onto q qs (h q.1.0 (i 0 q (omega arith)).1 e))
        by false e ih = ih

pub none_onto : (ws : List ℕ) (ps : List Pair) → lead_onto ps ws ≡ false → pairs_onto ws ps ≡ []
none_onto ws ps none = falls ps (λ z on. led_nowhere ps z ws on none)
  where
    falls : (qs : List Pair) → ((z : ℕ) → has z ws ≡ true → times z (rights qs) ≡ 0) → pairs_onto ws qs ≡ []
    falls [] h = refl
    falls (q ∷ qs) h = by (has q.1.0 ws) refl (falls qs (λ z on. omega (arith, h z on)))
      where
        by : (b : Bool) → has q.1.0 ws ≡ b → pairs_onto ws qs ≡ [] → (if b then q ∷ pairs_onto ws qs else pairs_onto ws qs) ≡ []
        by true e ih = absurd (first_onto q qs (h q.1.0 e))
        by false e ih = ih

-- where none falls all stay
pub all_stay_under : (vs : List Vertex) (v : VertexId) (ps : List Pair) → pairs_under vs v ps ≡ [] → ps ≡ pairs_but_under vs v ps
all_stay_under vs v [] e = refl
all_stay_under vs v (p ∷ ps) e = by (has v.0 (path_of vs p.1)) e (all_stay_under vs v ps)
  where
    by : (b : Bool) → (if b then p ∷ pairs_under vs v ps else pairs_under vs v ps) ≡ [] → (pairs_under vs v ps ≡ [] → ps ≡ pairs_but_under vs v ps) → p ∷ ps ≡ (if b then pairs_but_under vs v ps else p ∷ pairs_but_under vs v ps)
    by true h ih = absurd (cc)
    by false h ih = ap (λ (qs : List Pair). p ∷ qs) (ih h)

pub all_stay_onto : (ws : List ℕ) (ps : List Pair) → pairs_onto ws ps ≡ [] → ps ≡ pairs_but_onto ws ps
all_stay_onto ws [] e = refl
all_stay_onto ws (p ∷ ps) e = by (has p.1.0 ws) e (all_stay_onto ws ps)
  where
    by : (b : Bool) → (if b then p ∷ pairs_onto ws ps else pairs_onto ws ps) ≡ [] → (pairs_onto ws ps ≡ [] → ps ≡ pairs_but_onto ws ps) → p ∷ ps ≡ (if b then pairs_but_onto ws ps else p ∷ pairs_but_onto ws ps)
    by true h ih = absurd (cc)
    by false h ih = ap (λ (qs : List Pair). p ∷ qs) (ih h)

-- a pair at the end that does not fall
pub under_push : (vs : List Vertex) (v : VertexId) (ps : List Pair) (p : Pair) → has v.0 (path_of vs p.1) ≡ false → pairs_under vs v (ps ++ p ∷ []) ≡ pairs_under vs v ps
under_push vs v [] p e = rw e refl
under_push vs v (q ∷ ps) p e = by (has v.0 (path_of vs q.1)) (under_push vs v ps p e)
  where
    by : (b : Bool) → pairs_under vs v (ps ++ p ∷ []) ≡ pairs_under vs v ps → (if b then q ∷ pairs_under vs v (ps ++ p ∷ []) else pairs_under vs v (ps ++ p ∷ [])) ≡ (if b then q ∷ pairs_under vs v ps else pairs_under vs v ps)
    by true ih = ap (λ (qs : List Pair). q ∷ qs) ih
    by false ih = ih

pub but_under_push : (vs : List Vertex) (v : VertexId) (ps : List Pair) (p : Pair) → has v.0 (path_of vs p.1) ≡ false → pairs_but_under vs v (ps ++ p ∷ []) ≡ pairs_but_under vs v ps ++ p ∷ []
but_under_push vs v [] p e = rw e refl
but_under_push vs v (q ∷ ps) p e = by (has v.0 (path_of vs q.1)) (but_under_push vs v ps p e)
  where
    by : (b : Bool) → pairs_but_under vs v (ps ++ p ∷ []) ≡ pairs_but_under vs v ps ++ p ∷ []
        → (if b then pairs_but_under vs v (ps ++ p ∷ []) else q ∷ pairs_but_under vs v (ps ++ p ∷ [])) ≡ (if b then pairs_but_under vs v ps else q ∷ pairs_but_under vs v ps) ++ p ∷ []
    by true ih = ih
    by false ih = ap (λ (qs : List Pair). q ∷ qs) ih

-- the right side of the next pair to lower has a count
pub lower_there : (init counts : List ℕ) (pairs : List Pair) (i : ℕ) (d : Pair) → i < length pairs → ((z : ℕ) → times z (rights pairs) ≤ get_or init z 0)
    → ((z : ℕ) → get_or counts z 0 + times z (rights pairs) ≡ get_or init z 0 + times z (rights (drop i pairs))) → 1 ≤ get_or counts (get_or pairs i d).1.0 0
lower_there init counts pairs i d lt enough h =
    let p : Pair = get_or pairs i d in
    let next : times p.1.0 (rights (drop i pairs)) ≡ bit (nat_eq p.1.0 p.1.0) + times p.1.0 (rights (drop (i + 1) pairs)) = ap (λ (qs : List Pair). times p.1.0 (rights qs)) (drop_more pairs i d lt) in
    let one : bit (nat_eq p.1.0 p.1.0) ≡ 1 = ap bit (eq-eqb p.1.0 p.1.0 refl) in
    omega (arith, h p.1.0, enough p.1.0, next, one)

-- what has a count is there
pub counted_there : (counts : List ℕ) (z : ℕ) → 1 ≤ get_or counts z 0 → z < length counts
counted_there counts z one = elim (cases_lt z (length counts)) [
  | inl lt ↦ lt
  | inr le ↦ absurd (omega (arith, one, get_or_past counts z 0 le))
]

-- a pair more at the end
pub onto_push : (ps qs : List Pair) (p : Pair) (counts grown : List ℕ) (n : ℕ) → AreOnto ps counts → ((z : ℕ) → get_or grown z 0 ≡ get_or counts z 0) → p.1.0 < length grown
    → n ≡ get_or grown p.1.0 0 → qs ≡ ps ++ p ∷ [] → AreOnto qs (set grown p.1.0 (n + 1))
onto_push ps qs p counts grown n on same lt is ends z =
    let more : times z (rights qs) ≡ times z (rights ps) + bit (nat_eq z p.1.0) = ap (λ (xs : List Pair). times z (rights xs)) ends ∙ rights_push ps p z in
    elim (cases_eq z p.1.0) [
      | inl e ↦ (let here : get_or (set grown p.1.0 (n + 1)) z 0 ≡ n + 1 = ap (λ (k : ℕ). get_or (set grown p.1.0 (n + 1)) k 0) e ∙ get_or-set_same grown p.1.0 (n + 1) 0 lt in omega (arith, here, more, is, same p.1.0, on p.1.0, ap bit (eq-eqb z p.1.0 e), ap (λ (k : ℕ). times k (rights ps)) e))
      | inr ne ↦ (let there : get_or (set grown p.1.0 (n + 1)) z 0 ≡ get_or grown z 0 = get_or-set_other grown p.1.0 z (n + 1) 0 ne in omega (arith, there, more, same z, on z, ap bit (ne_eqb z p.1.0 ne)))
    ]

-- the last pair less
pub last_counted : (ps qs : List Pair) (p : Pair) (counts : List ℕ) → AreOnto qs counts → qs ≡ ps ++ p ∷ [] → 1 ≤ get_or counts p.1.0 0
last_counted ps qs p counts on ends =
    let more : times p.1.0 (rights qs) ≡ times p.1.0 (rights ps) + bit (nat_eq p.1.0 p.1.0) = ap (λ (xs : List Pair). times p.1.0 (rights xs)) ends ∙ rights_push ps p p.1.0 in
    omega (arith, more, on p.1.0, ap bit (eq-eqb p.1.0 p.1.0 refl))

pub onto_pop : (ps qs : List Pair) (p : Pair) (counts : List ℕ) (n : ℕ) → AreOnto qs counts → n ≡ get_or counts p.1.0 0 → qs ≡ ps ++ p ∷ [] → AreOnto ps (set counts p.1.0 (n - 1))
onto_pop ps qs p counts n on is ends z =
    let more : times z (rights qs) ≡ times z (rights ps) + bit (nat_eq z p.1.0) = ap (λ (xs : List Pair). times z (rights xs)) ends ∙ rights_push ps p z in
    let there : p.1.0 < length counts = counted_there counts p.1.0 (last_counted ps qs p counts on ends) in
    elim (cases_eq z p.1.0) [
      | inl e ↦ (let here : get_or (set counts p.1.0 (n - 1)) z 0 ≡ n - 1 = ap (λ (k : ℕ). get_or (set counts p.1.0 (n - 1)) k 0) e ∙ get_or-set_same counts p.1.0 (n - 1) 0 there in let at : get_or counts z 0 ≡ get_or counts p.1.0 0 = ap (λ (k : ℕ). get_or counts k 0) e in omega (arith, here, more, is, at, on z, ap bit (eq-eqb z p.1.0 e)))
      | inr ne ↦ (let there : get_or (set counts p.1.0 (n - 1)) z 0 ≡ get_or counts z 0 = get_or-set_other counts p.1.0 z (n - 1) 0 ne in omega (arith, there, more, on z, ap bit (ne_eqb z p.1.0 ne)))
    ]

-- what falls is taken from the counts
pub onto_falls : (ps stay fallen gone : List Pair) (counts new : List ℕ) → AreOnto ps counts → ((z : ℕ) → times z (rights ps) ≡ times z (rights stay) + times z (rights fallen)) → gone ≡ fallen
    → ((z : ℕ) → get_or new z 0 + times z (rights gone) ≡ get_or counts z 0) → AreOnto stay new
onto_falls ps stay fallen gone counts new on split is low z = omega (arith, on z, split z, low z, ap (λ (qs : List Pair). times z (rights qs)) is)

pub falls_enough : (ps stay fallen gone : List Pair) (counts : List ℕ) → AreOnto ps counts → ((z : ℕ) → times z (rights ps) ≡ times z (rights stay) + times z (rights fallen)) → gone ≡ fallen
    → (z : ℕ) → times z (rights gone) ≤ get_or counts z 0
falls_enough ps stay fallen gone counts on split is z = omega (arith, on z, split z, ap (λ (qs : List Pair). times z (rights qs)) is)

-- what has no element is empty
pub empty_is : (ps : List Pair) → length ps ≡ 0 → ps ≡ []
empty_is [] e = refl
empty_is (p ∷ ps) e = absurd (omega (arith, e))

pub times_few : (z : ℕ) (ps : List Pair) → times z (rights ps) ≤ length ps
times_few z [] = omega arith
times_few z (p ∷ ps) = let s = bit_small (nat_eq z p.1.0) in omega (arith, s, times_few z ps)

-- what is read where there is an element
pub read_at : (counts : List ℕ) (i n : ℕ) → i < length counts → n ≡ get_or counts i n → n ≡ get_or counts i 0
read_at counts i n lt is = is ∙ get_or_default_zero counts i n lt
