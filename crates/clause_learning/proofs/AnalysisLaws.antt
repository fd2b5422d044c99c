-- Laws of the analysis of a conflict.
use Rattle.std.proofs.Common.{◌≡◌, ℕ, ◌+◌, ◌-◌, ◌<◌, ◌≤◌, Bool, true, false, not, ◌&&◌, ◌||◌, cond, List, [], ◌∷◌, ◌++◌, Option, Some, None, slice_get, nat_eq, nat_le, nat_lt, zero, suc, ◌⊎◌, inl, inr, refl, sym, ap, ◌∙◌, subst, arith, append_assoc, append-nil, length, length-append}
use Rattle.std.proofs.lemmas.Bool.{and_parts, and_from, or_cases, or_left, or_right, or_from, or_parts, both_ways, cases_Bool, leb-true, le-leb, eq-eqb, ne_eqb, eqb-true, false_from_ne_true, and_right, and_left, not_from_false, and_cases, not-true, cases_lt, lt-ltb, ltb-true}
use Rattle.prop.specs.declared.Lit.{Lit}
use Rattle.clause_learning.specs.declared.Entry.{Entry}
use Rattle.clause_learning.specs.Trail.{set_in, Set, set_at, SetAt, Why, EntryOk, TrailOk, TrailOk.none_set, TrailOk.one_more, LowerClosed, Analysed, Learnt, below_of, first_of, Going, Told}
use Rattle.prop.proofs.Sets.{same-true, same_refl, same-from, lit_cases, lit_path, negated_twice, negated_ne, negated_swap, Has-append, Has-without, Has-left, Has-right, Has-kept, Has-head, Has-tail, Has-cons, In-get, In-left, In-right, In-append}
use Rattle.resolution_log.proofs.Results.{then_parts, step_parts}
use Rattle.resolution_log.proofs.Propagates.{is_new}
use Rattle.clause_learning.proofs.TrailLaws.{Set-push, Set-left, Set-last, SetAt-push, SetAt-left, SetAt-last, SetAt-pop, Set-at, SetAt-up, last_ok, quiet_trail, quiet_at, LowerClosed-pop}
use Rattle.prop.specs.Logic.{negated, positive_of}
use Rattle.prop.specs.Steps.{same, negative_of, has, Has, without, In, crosses, resolved, one_way, resolve}
use Rattle.resolution_log.specs.Chains.{then_with, chain_from, absent, pivots_differ}
use Rattle.resolution_log.specs.Propagation.{Quiet, Closed, IsNew}

resolve_signed : (v : ℕ) (b : Bool) (d c : List Lit) → let l : Lit = record { var = v; positive = b } in crosses l d c ≡ true → crosses (negated l) d c ≡ false → resolve v d c ≡ Some (resolved l d c)
resolve_signed v true d c h g = rw (h, g)
resolve_signed v false d c h g = rw (g, h)

pub resolve_to : (l : Lit) (d c : List Lit) → crosses l d c ≡ true → crosses (negated l) d c ≡ false → resolve l.var d c ≡ Some (resolved l d c)
resolve_to l d c h g = resolve_signed l.var l.positive d c h g

pub chain_push : (known : List (List Lit)) (c d r e : List Lit) (p : ℕ × ℕ) (ps : List (ℕ × ℕ)) → chain_from known c ps ≡ Some d → slice_get known p.1 ≡ Some r → resolve p.0 d r ≡ Some e → chain_from known c (ps ++ (p ∷ [])) ≡ Some e
chain_push known c d r e p [] h g k = let q : c ≡ d = cc in rw (g, q, k)
chain_push known c d r e p (p0 ∷ ps) h g k =
    let (d0, e0, gd, ge, h2) = step_parts known p0 ps c d h in
    let ih = chain_push known e0 d r e p ps h2 g k in
    rw (gd, ge) ih

pub absent_push : (v : ℕ) (ps : List (ℕ × ℕ)) (p : ℕ × ℕ) → absent v ps ≡ true → (p.0 ≡ v → ⊥) → absent v (ps ++ (p ∷ [])) ≡ true
absent_push v [] p h n = and_from (not (nat_eq p.0 v)) true (not_from_false (nat_eq p.0 v) (ne_eqb p.0 v n)) refl
absent_push v (q ∷ ps) p h n = let k = and_parts (not (nat_eq q.0 v)) (absent v ps) h in and_from (not (nat_eq q.0 v)) (absent v (ps ++ (p ∷ []))) k.0 (absent_push v ps p k.1 n)

not_same : (a b : ℕ) → not (nat_eq a b) ≡ true → b ≡ a → ⊥
not_same a b h e = both_ways (nat_eq a b) (not-true (nat_eq a b) h) (eq-eqb a b (sym e))

pub differ_push : (ps : List (ℕ × ℕ)) (p : ℕ × ℕ) → pivots_differ ps ≡ true → absent p.0 ps ≡ true → pivots_differ (ps ++ (p ∷ [])) ≡ true
differ_push [] p h a = refl
differ_push (q ∷ ps) p h a =
    let k = and_parts (absent q.0 ps) (pivots_differ ps) h in
    let b = and_parts (not (nat_eq q.0 p.0)) (absent p.0 ps) a in
    and_from (absent q.0 (ps ++ (p ∷ []))) (pivots_differ (ps ++ (p ∷ []))) (absent_push q.0 ps p k.0 (not_same q.0 p.0 b.0)) (differ_push ps p k.1 b.1)

sign_cases : (a b : Bool) → (a ≡ b) ⊎ (a ≡ not b)
sign_cases true true = inl refl
sign_cases true false = inr refl
sign_cases false true = inr refl
sign_cases false false = inl refl

pub var_cases : (l m : Lit) → l.var ≡ m.var → (l ≡ m) ⊎ (l ≡ negated m)
var_cases l m e = elim (sign_cases l.positive m.positive) [ inl a ↦ inl (lit_path l m e a) | inr b ↦ inr (lit_path l (negated m) e b) ]

pub below_all : (k : ℕ) (t : List Entry) (u : Lit) (d : List Lit) → below_of k t u d ≡ true → (m : Lit) → Has d m → (m ≡ u → ⊥) → SetAt k t (negated m)
below_all k t u [] h m hm n = absurd cc
below_all k t u (x ∷ d) h m hm n =
    let p = and_parts (same x u || set_at k t (negated x)) (below_of k t u d) h in
    elim (Has-cons x d m hm) [
      | inl e ↦ elim (or_cases (same x u) (set_at k t (negated x)) p.0) [ inl s ↦ absurd (n (sym e ∙ same-true x u s)) | inr s ↦ subst (λ w. SetAt k t (negated w)) e s ]
      | inr r ↦ below_all k t u d p.1 m r n
    ]

pub below_not : (k : ℕ) (t : List Entry) (u : Lit) (d : List Lit) → below_of k t u d ≡ false → (m : Lit) × (Has d m × (m ≡ u → ⊥) × (SetAt k t (negated m) → ⊥))
below_not k t u [] h = absurd cc
below_not k t u (x ∷ d) h = elim (and_cases (same x u || set_at k t (negated x)) (below_of k t u d) h) [
  | inl a ↦ let p = or_parts (same x u) (set_at k t (negated x)) a in (x, (Has-head x d, (λ e. both_ways (same x u) p.0 (same-from x u e)), (λ s. both_ways (set_at k t (negated x)) p.1 s)))
  | inr b ↦ let (m, r) = below_not k t u d b in (m, (Has-tail x d m r.0, r.1, r.2))
]

module _ (known : List (List Lit)) (level : ℕ) (x t : List Entry) (e : Entry) (start d : List Lit) (pairs : List (ℕ × ℕ)) (ok : TrailOk known x) (is : x ≡ t ++ (e ∷ [])) (an : Analysed known level x start d pairs) where
  entry : EntryOk known t e
  entry = (last_ok known x t e ok is).1

  at_x : (l : Lit) → Set x l → Set t l ⊎ (e.lit ≡ l)
  at_x l h = Set-push t e l (subst (λ w. Set w l) is h)

  to_x : (l : Lit) → Set t l → Set x l
  to_x l h = subst (λ w. Set w l) (sym is) (Set-left t (e ∷ []) l h)

  low_x : (l : Lit) (k : ℕ) → SetAt k t l → SetAt k x l
  low_x l k h = subst (λ w. SetAt k w l) (sym is) (SetAt-left k t (e ∷ []) l h)

  no_lit : Has d e.lit → ⊥
  no_lit h = elim (at_x (negated e.lit) (an.falsified e.lit h)) [ inl a ↦ entry.fresh_not a | inr q ↦ negated_ne e.lit q ]

  -- the last entry isn't in the clause
  pub pass : has d (negated e.lit) ≡ false → Analysed known level t start d pairs
  pass h = record {
    chain = an.chain;
    differ = an.differ;
    away = λ l s. an.away l (to_x l s);
    falsified = λ m hm. elim (at_x (negated m) (an.falsified m hm)) [ inl a ↦ a | inr q ↦ absurd (both_ways (has d (negated e.lit)) h (subst (Has d) (negated_swap m e.lit (sym q)) hm)) ];
    touches = λ lt. let (m, hm, far) = an.touches lt in (m, hm, λ s. far (low_x (negated m) (level - 1) s));
  }

  -- others that are false before the last entry
  pub others_false : (m : Lit) → Has d m → (m ≡ negated e.lit → ⊥) → Set t (negated m)
  others_false m hm n = elim (at_x (negated m) (an.falsified m hm)) [ inl a ↦ a | inr q ↦ absurd (n (negated_swap m e.lit (sym q))) ]

  -- all others are of lower levels
  pub learn : has d (negated e.lit) ≡ true → below_of (level - 1) t (negated e.lit) d ≡ true → Learnt level t d (negated e.lit)
  learn h b = record {
    in_it = h;
    free = entry.fresh_not;
    free_not = λ s. entry.fresh (subst (Set t) (negated_twice e.lit) s);
    below = below_all (level - 1) t (negated e.lit) d b;
  }

  -- a decision has no other literal of its level
  pub decided : e.reason ≡ None → e.level ≤ level → below_of (level - 1) t (negated e.lit) d ≡ false → ⊥
  decided none le b =
      let w : Why known t e None = subst (Why known t e) none entry.why in
      let (m, r) = below_not (level - 1) t (negated e.lit) d b in
      let q : e.level - 1 ≤ level - 1 = omega arith in
      r.2 (SetAt-up (e.level - 1) (level - 1) t (negated m) q (w.1 (negated m) (others_false m r.0 r.1)))

  -- an entry that is popped is of the current level
  pub pop_level : level ≤ e.level
  pop_level = go (cases_lt e.level level)
    where
      go : (e.level < level) ⊎ (level ≤ e.level) → level ≤ e.level
      go (inr h) = h
      go (inl h) = absurd (far (low (negated m) (an.falsified m hm)))
        where
          pos : 0 < level
          pos = omega arith

          le : e.level ≤ level - 1
          le = omega arith

          m : Lit
          m = (an.touches pos).0

          hm : Has d m
          hm = (an.touches pos).1

          far : SetAt (level - 1) x (negated m) → ⊥
          far = (an.touches pos).2

          low : (l : Lit) → Set x l → SetAt (level - 1) x l
          low l s = elim (at_x l s) [ inl a ↦ low_x l (level - 1) (SetAt-up e.level (level - 1) t l le (entry.above l a)) | inr q ↦ subst (λ w. SetAt (level - 1) w l) (sym is) (subst (SetAt (level - 1) (t ++ (e ∷ []))) q (SetAt-last (level - 1) t e le)) ]

  pub all_pop : ((l : Lit) → Set x l → SetAt level x l) → (l : Lit) → Set t l → SetAt level t l
  all_pop all l s = elim (SetAt-push level t e l (subst (λ w. SetAt level w l) is (all l (to_x l s)))) [ inl a ↦ a | inr q ↦ absurd (entry.fresh (subst (Set t) (sym q.0) s)) ]

  pub last_level : ((l : Lit) → Set x l → SetAt level x l) → e.level ≤ level
  last_level all = elim (SetAt-push level t e e.lit (subst (λ w. SetAt level w e.lit) is (all e.lit (subst (λ w. Set w e.lit) (sym is) (Set-last t e))))) [ inl a ↦ absurd (entry.fresh (Set-at level t e.lit a)) | inr q ↦ q.1 ]

  module _ (r : ℕ) (c : List Lit) (at : e.reason ≡ Some r) (gets : slice_get known r ≡ Some c) (h : has d (negated e.lit) ≡ true) where
    reason_facts : Has c e.lit × ((m : Lit) → Has c m → (m ≡ e.lit → ⊥) → Set t (negated m))
    reason_facts =
        let (b, g, p, q) = subst (Why known t e) at entry.why in
        let s : b ≡ c = cc (g, gets) in
        (subst (λ w. Has w e.lit) s p, λ m hm n. q m (subst (λ w. Has w m) (sym s) hm) n)

    resolves : resolve e.lit.var d c ≡ Some (resolved (negated e.lit) d c)
    resolves = resolve_to (negated e.lit) d c
        (and_from (has d (negated e.lit)) (has c (negated (negated e.lit))) h (subst (λ w. Has c w) (sym (negated_twice e.lit)) reason_facts.0))
        (and_left (has d (negated (negated e.lit))) (has c (negated (negated (negated e.lit)))) (false_from_ne_true (has d (negated (negated e.lit))) (λ s. no_lit (subst (Has d) (negated_twice e.lit) s))))

    pub step : (p : ℕ × ℕ) → p.0 ≡ e.lit.var → p.1 ≡ r → (0 < level → below_of (level - 1) t (negated e.lit) d ≡ false) → Analysed known level t start (resolved (negated e.lit) d c) (pairs ++ (p ∷ []))
    step p pv pc b = record {
      chain = chain_push known start d c (resolved (negated e.lit) d c) p pairs an.chain (rw pc gets) (rw pv resolves);
      differ = differ_push pairs p an.differ (rw pv (an.away e.lit (subst (λ w. Set w e.lit) (sym is) (Set-last t e))));
      away = λ l s. absent_push l.var pairs p (an.away l (to_x l s)) (λ q. elim (var_cases l e.lit (sym q ∙ pv)) [ inl a ↦ entry.fresh (subst (Set t) a s) | inr a ↦ entry.fresh_not (subst (Set t) a s) ]);
      falsified = λ m hm. elim (Has-append (without (negated e.lit) d) (without (negated (negated e.lit)) c) m hm) [
        | inl a ↦ let k = Has-without (negated e.lit) d m a in others_false m k.0 k.1
        | inr a ↦ let k = Has-without (negated (negated e.lit)) c m a in reason_facts.1 m k.0 (λ q. k.1 (q ∙ sym (negated_twice e.lit)))
      ];
      touches = λ lt. let (m, k) = below_not (level - 1) t (negated e.lit) d (b lt) in (m, Has-left (without (negated e.lit) d) (without (negated (negated e.lit)) c) m (Has-kept (negated e.lit) d m k.0 k.1), k.2);
    }

-- what is learnt is new
pub learnt_new : (known : List (List Lit)) (level : ℕ) (t : List Entry) (d : List Lit) (u : Lit) → 0 < level → TrailOk known t → LowerClosed known level t → ((c : List Lit) → In known c → c ≡ [] → ⊥) → Learnt level t d u → IsNew known d
learnt_new known level t d u lt ok low some l =
    let q : level - 1 < level = omega arith in
    is_new known (SetAt (level - 1) t) (low (level - 1) q) (quiet_at known t (level - 1) ok) d u l.in_it l.below (λ s. l.free (Set-at (level - 1) t u s)) some

module _ (known : List (List Lit)) (level : ℕ) (x t : List Entry) (e : Entry) (conflict : ℕ) (d : List Lit) (pairs : List (ℕ × ℕ)) (go : Going known level x conflict d pairs) (is : x ≡ t ++ (e ∷ [])) where
  low_t : LowerClosed known level t
  low_t = LowerClosed-pop known level t e (pop_level known level x t e go.start d pairs go.ok is go.an) (subst (LowerClosed known level) is go.low)

  all_t : (l : Lit) → Set t l → SetAt level t l
  all_t = all_pop known level x t e go.start d pairs go.ok is go.an go.all

  ok_t : TrailOk known t
  ok_t = (last_ok known x t e go.ok is).0

  pub going_pass : has d (negated e.lit) ≡ false → Going known level t conflict d pairs
  going_pass h = record { ok = ok_t; low = low_t; all = all_t; start = go.start; gets = go.gets; an = pass known level x t e go.start d pairs go.ok is go.an h }

  pub going_step : (r : ℕ) (c : List Lit) (p : ℕ × ℕ) → has d (negated e.lit) ≡ true → e.reason ≡ Some r → slice_get known r ≡ Some c → (0 < level → below_of (level - 1) t (negated e.lit) d ≡ false) → p.0 ≡ e.lit.var → p.1 ≡ r → Going known level t conflict (resolved (negated e.lit) d c) (pairs ++ (p ∷ []))
  going_step r c p h at gets b pv pc = record { ok = ok_t; low = low_t; all = all_t; start = go.start; gets = go.gets; an = step known level x t e go.start d pairs go.ok is go.an r c at gets h p pv pc b }

  pub going_reason : (r : ℕ) → e.reason ≡ Some r → (c : List Lit) × (slice_get known r ≡ Some c)
  going_reason r at = let (c, g, p, q) = subst (Why known t e) at (last_ok known x t e go.ok is).1.why in (c, g)

  pub going_decided : e.reason ≡ None → (0 < level → below_of (level - 1) t (negated e.lit) d ≡ false) → ⊥
  going_decided none b = decided known level x t e go.start d pairs go.ok is go.an none le (b pos)
    where
      w : Why known t e None
      w = subst (Why known t e) none (last_ok known x t e go.ok is).1.why

      le : e.level ≤ level
      le = last_level known level x t e go.start d pairs go.ok is go.an go.all

      deep : 0 < e.level
      deep = w.0

      pos : 0 < level
      pos = omega (arith, deep, le)

  pub going_learn : 0 < level → has d (negated e.lit) ≡ true → below_of (level - 1) t (negated e.lit) d ≡ true → Told known level t conflict d pairs (Some (negated e.lit))
  going_learn lt h b = record { start = go.start; gets = go.gets; chain = go.an.chain; differ = go.an.differ; ok = ok_t; low = low_t; all = all_t; uip = (lt, learn known level x t e go.start d pairs go.ok is go.an h b) }

nothing_set : (d : List Lit) → ((m : Lit) → Has d m → Set [] (negated m)) → d ≡ []
nothing_set [] h = refl
nothing_set (m ∷ d) h = absurd (both_ways false refl (h m (Has-head m d)))

pub going_end : (known : List (List Lit)) (level : ℕ) (x : List Entry) (conflict : ℕ) (d : List Lit) (pairs : List (ℕ × ℕ)) → Going known level x conflict d pairs → x ≡ [] → Told known level x conflict d pairs None
going_end known level x conflict d pairs go e = record { start = go.start; gets = go.gets; chain = go.an.chain; differ = go.an.differ; ok = go.ok; low = go.low; all = go.all; uip = (zero_level (cases_lt 0 level), empty) }
  where
    empty : d ≡ []
    empty = nothing_set d (λ m hm. subst (λ w. Set w (negated m)) e (go.an.falsified m hm))

    none_in : (m : Lit) → Has d m → ⊥
    none_in m hm = both_ways false refl (subst (λ w. Set w (negated m)) e (go.an.falsified m hm))

    zero_level : (0 < level) ⊎ (level ≤ 0) → level ≡ 0
    zero_level (inl h) = absurd (none_in (go.an.touches h).0 (go.an.touches h).1)
    zero_level (inr h) = omega arith

pub first_false : (level : ℕ) (t : List Entry) (u : Lit) (d : List Lit) → first_of level t u d ≡ false → 0 < level → below_of (level - 1) t u d ≡ false
first_false level t u d h lt = elim (and_cases (nat_lt 0 level) (below_of (level - 1) t u d) h) [ inl a ↦ absurd (both_ways (nat_lt 0 level) a (lt-ltb 0 level lt)) | inr b ↦ b ]

pub first_true : (level : ℕ) (t : List Entry) (u : Lit) (d : List Lit) → first_of level t u d ≡ true → (0 < level) × (below_of (level - 1) t u d ≡ true)
first_true level t u d h = let p = and_parts (nat_lt 0 level) (below_of (level - 1) t u d) h in (ltb-true 0 level p.0, p.1)

-- what a call said, at the values that a goal has
pub link_has : (d2 d : List Lit) (b2 b : Lit) (r x : Bool) → r ≡ has d2 b2 → d2 ≡ d → b2 ≡ b → r ≡ x → has d b ≡ x
link_has d2 d b2 b r x h e f g = subst (λ w. has d w ≡ x) f (subst (λ w. has w b2 ≡ x) e (sym h ∙ g))

pub link_first : (level : ℕ) (t2 t : List Entry) (b2 b : Lit) (d2 d : List Lit) (r x : Bool) → r ≡ first_of level t2 b2 d2 → t2 ≡ t → b2 ≡ b → d2 ≡ d → r ≡ x → first_of level t b d ≡ x
link_first level t2 t b2 b d2 d r x h e f g k = subst (λ w. first_of level w b d ≡ x) e (subst (λ w. first_of level t2 w d ≡ x) f (subst (λ w. first_of level t2 b2 w ≡ x) g (sym h ∙ k)))

pub link_going : (known : List (List Lit)) (level : ℕ) (t : List Entry) (conflict : ℕ) (b2 b : Lit) (d2 d c2 c e : List Lit) (ps ps2 : List (ℕ × ℕ)) → Going known level t conflict (resolved b d c) ps → e ≡ resolved b2 d2 c2 → b2 ≡ b → d2 ≡ d → c2 ≡ c → ps2 ≡ ps → Going known level t conflict e ps2
link_going known level t conflict b2 b d2 d c2 c e ps ps2 go h f g k q =
    let p : resolved b d c ≡ e = subst (λ w. resolved w d c ≡ e) f (subst (λ w. resolved b2 w c ≡ e) g (subst (λ w. resolved b2 d2 w ≡ e) k (sym h))) in
    subst (λ w. Going known level t conflict e w) (sym q) (subst (λ w. Going known level t conflict w ps) p go)

pub get-below : (xs : List (List Lit)) (k : ℕ) (c : List Lit) → slice_get xs k ≡ Some c → k < length xs
get-below [] k c h = absurd cc
get-below (x ∷ xs) zero c h = omega arith
get-below (x ∷ xs) (suc k) c h = let q : k < length xs = get-below xs k c h in omega arith
