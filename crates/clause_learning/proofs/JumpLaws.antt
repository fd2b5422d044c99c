-- Laws of what follows an analysis, and of propagation.
use Rattle.std.proofs.Common.{◌≡◌, ℕ, ◌+◌, ◌-◌, ◌<◌, ◌≤◌, Bool, true, false, not, ◌&&◌, ◌||◌, cond, List, [], ◌∷◌, ◌++◌, Option, Some, None, slice_get, nat_eq, nat_le, nat_lt, zero, suc, ◌⊎◌, inl, inr, refl, sym, ap, ◌∙◌, subst, arith, append_assoc, append-nil, length, length-append}
use Rattle.std.proofs.lemmas.Bool.{and_parts, and_from, or_cases, or_left, or_right, both_ways, cases_Bool, leb-true, le-leb, false_from_ne_true, cases_lt, cases_eq}
use Rattle.prop.specs.declared.Lit.{Lit}
use Rattle.resolution_log.specs.declared.Chain.{Chain}
use Rattle.clause_learning.specs.declared.Entry.{Entry}
use Rattle.clause_learning.specs.Trail.{set_in, Set, set_at, SetAt, Why, EntryOk, TrailOk, TrailOk.none_set, TrailOk.one_more, LowerClosed, Analysed, Learnt, below_of, Going, Told, UipOk, Back, Holds}
use Rattle.prop.proofs.Sets.{same-true, same_refl, same-from, lit_cases, negated_twice, negated_ne, negated_swap, Has-head, Has-tail, Has-cons, In-get, In-left, In-right, In-append}
use Rattle.clause_learning.proofs.TrailLaws.{Set-push, Set-left, Set-last, SetAt-push, SetAt-left, SetAt-last, SetAt-pop, Set-at, SetAt-up, last_ok, quiet_trail, quiet_at, LowerClosed-pop, LowerClosed-push, LowerClosed-open, TrailOk-more, Closed-same}
use Rattle.clause_learning.proofs.AnalysisLaws.{below_all, below_not, learnt_new}
use Rattle.prop.specs.Logic.{negated, lit_value}
use Rattle.prop.specs.Steps.{same, has, Has, In}
use Rattle.resolution_log.specs.Chains.{then_with, chain_from, chain_result, pivots_differ}
use Rattle.resolution_log.specs.Propagation.{Quiet, Closed, IsNew}
use Rattle.resolution_log.specs.Logs.{New}

pub back_start : (known : List (List Lit)) (low level : ℕ) (t : List Entry) → low ≤ level → TrailOk known t → LowerClosed known level t → Back known low t t
back_start known low level t le ok h = record { ok = ok; low_closed = λ k lt. h k (omega arith); keeps = λ k l le s. s; fewer = λ l s. s; fewer_at = λ k l s. s }

pub back_pop : (known : List (List Lit)) (low : ℕ) (old x t : List Entry) (e : Entry) → Back known low old x → x ≡ t ++ (e ∷ []) → low < e.level → Back known low old t
back_pop known low old x t e b is lt = record {
  ok = (last_ok known x t e b.ok is).0;
  low_closed = let q : low ≤ e.level = omega arith in LowerClosed-pop known low t e q (subst (LowerClosed known low) is b.low_closed);
  keeps = λ k l le s. let q : k < e.level = omega arith in SetAt-pop k t e l q (subst (λ w. SetAt k w l) is (b.keeps k l le s));
  fewer = λ l s. b.fewer l (subst (λ w. Set w l) (sym is) (Set-left t (e ∷ []) l s));
  fewer_at = λ k l s. b.fewer_at k l (subst (λ w. SetAt k w l) (sym is) (SetAt-left k t (e ∷ []) l s));
}

-- all that is left is of a level up to `low`
pub back_all : (known : List (List Lit)) (low : ℕ) (old x t : List Entry) (e : Entry) → Back known low old x → x ≡ t ++ (e ∷ []) → e.level ≤ low → (l : Lit) → Set x l → SetAt low x l
back_all known low old x t e b is le l s =
    let entry = (last_ok known x t e b.ok is).1 in
    subst (λ w. SetAt low w l) (sym is) (elim (Set-push t e l (subst (λ w. Set w l) is s)) [ inl a ↦ SetAt-left low t (e ∷ []) l (SetAt-up e.level low t l le (entry.above l a)) | inr q ↦ subst (SetAt low (t ++ (e ∷ []))) q (SetAt-last low t e le) ])

pub holds_push : (known : List (List Lit)) (level : ℕ) (t : List Entry) (e : Entry) → Holds known level t → e.level ≡ level → (Set t e.lit → ⊥) → (Set t (negated e.lit) → ⊥) → Why known t e e.reason → Holds known level (t ++ (e ∷ []))
holds_push known level t e h at free free_not why =
    let le : level ≤ e.level = omega arith in
    let ge : e.level ≤ level = omega arith in
    record {
      ok = one_more t e h.ok (record { fresh = free; fresh_not = free_not; above = λ l s. subst (λ w. SetAt w t l) (sym at) (h.all l s); why = why }) refl;
      low = LowerClosed-push known level t e le h.low;
      all = λ l s. elim (Set-push t e l s) [ inl a ↦ SetAt-left level t (e ∷ []) l (h.all l a) | inr q ↦ subst (SetAt level (t ++ (e ∷ []))) q (SetAt-last level t e ge) ];
    }

-- a decision, where the trail is closed
pub holds_decide : (known : List (List Lit)) (level : ℕ) (t : List Entry) (e : Entry) → Holds known level t → Closed known (Set t) → e.level ≡ level + 1 → e.reason ≡ None → (Set t e.lit → ⊥) → (Set t (negated e.lit) → ⊥) → Holds known (level + 1) (t ++ (e ∷ []))
holds_decide known level t e h closed at none free free_not =
    let up : Holds known (level + 1) t = record { ok = h.ok; low = LowerClosed-open known level t closed h.all h.low; all = λ l s. SetAt-up level (level + 1) t l (omega arith) (h.all l s) } in
    let pos : 0 < e.level = omega arith in
    let same' : e.level - 1 ≡ level = omega arith in
    let w : Why known t e None = (pos, λ l s. subst (λ k. SetAt k t l) (sym same') (h.all l s)) in
    holds_push known (level + 1) t e up at free free_not (subst (Why known t e) (sym none) w)

-- the learnt clause is in place, and its literal is true, at the level of its last other literal
pub holds_learnt : (known : List (List Lit)) (d : List Lit) (u : Lit) (level low : ℕ) (old t : List Entry) (e : Entry) (r : ℕ) → Back known low old t → ((l : Lit) → Set t l → SetAt low t l) → Learnt level old d u → below_of low old u d ≡ true → ((k : ℕ) → k < low → below_of k old u d ≡ false) → e.lit ≡ u → e.level ≡ low → e.reason ≡ Some r → slice_get (known ++ (d ∷ [])) r ≡ Some d → Holds (known ++ (d ∷ [])) low (t ++ (e ∷ []))
holds_learnt known d u level low old t e r b all learnt at least is lev why gets =
    let free : Set t u → ⊥ = λ s. learnt.free (b.fewer u s) in
    let free_not : Set t (negated u) → ⊥ = λ s. learnt.free_not (b.fewer (negated u) s) in
    let others : (m : Lit) → Has d m → (m ≡ u → ⊥) → Set t (negated m) = λ m hm n. Set-at low t (negated m) (b.keeps low (negated m) (omega arith) (below_all low old u d at m hm n)) in
    let w : Why (known ++ (d ∷ [])) t e (Some r) = (d, gets, subst (Has d) (sym is) learnt.in_it, λ m hm n. others m hm (λ q. n (q ∙ sym is))) in
    holds_push (known ++ (d ∷ [])) low t e
    (record { ok = TrailOk-more known (d ∷ []) t b.ok; low = closed_more; all = all })
    lev (λ s. free (subst (Set t) is s)) (λ s. free_not (subst (λ w. Set t (negated w)) is s)) (subst (Why (known ++ (d ∷ [])) t e) (sym why) w)
  where
    closed_more : LowerClosed (known ++ (d ∷ [])) low t
    closed_more k lt c l hc hl others = elim (In-append known (d ∷ []) c hc) [
      | inl a ↦ b.low_closed k lt c l a hl others
      | inr y ↦ elim y [
        | inr z ↦ absurd z
        | inl q ↦
            absurd (elim (lit_cases l u) [
              | inl p ↦ (let (m, far) = below_not k old u d (least k lt) in far.2 (b.fewer_at k (negated m) (others m (subst (λ w. Has w m) (sym q) far.0) (λ z. far.1 (z ∙ p)))))
              | inr n ↦ learnt.free_not (b.fewer (negated u) (Set-at k t (negated u) (others u (subst (λ w. Has w u) (sym q) learnt.in_it) (λ z. n (sym z)))))
            ])
      ]
    ]

pub below_from : (k : ℕ) (t : List Entry) (u : Lit) (d : List Lit) → ((m : Lit) → Has d m → (m ≡ u → ⊥) → SetAt k t (negated m)) → below_of k t u d ≡ true
below_from k t u [] h = refl
below_from k t u (m ∷ d) h = and_from (same m u || set_at k t (negated m)) (below_of k t u d) (elim (lit_cases m u) [ inl e ↦ or_left (same m u) (set_at k t (negated m)) (same-from m u e) | inr n ↦ or_right (same m u) (set_at k t (negated m)) (h m (Has-head m d) n) ]) (below_from k t u d (λ x hx n. h x (Has-tail m d x hx) n))

pub back_none : (known : List (List Lit)) (low : ℕ) (old : List Entry) (l : Lit) → Set [] l → SetAt low [] l
back_none known low old l s = s

-- what a conflict begins with
low_or : (k : ℕ) (t : List Entry) (d : List Lit) → ((m : Lit) → Has d m → SetAt k t (negated m)) ⊎ ((m : Lit) × Has d m × (SetAt k t (negated m) → ⊥))
low_or k t [] = inl (λ m h. absurd (both_ways false refl h))
low_or k t (x ∷ d) = elim (cases_Bool (set_at k t (negated x))) [
  | inr f ↦ inr (x, Has-head x d, λ s. both_ways (set_at k t (negated x)) f s)
  | inl s ↦ elim (low_or k t d) [ inl all ↦ inl (λ m h. elim (Has-cons x d m h) [ inl e ↦ subst (λ w. SetAt k t (negated w)) e s | inr b ↦ all m b ]) | inr (m, hm, far) ↦ inr (m, Has-tail x d m hm, far) ]
]

not_all_low : (known : List (List Lit)) (k : ℕ) (t : List Entry) (d : List Lit) → Closed known (SetAt k t) → Quiet (SetAt k t) → In known d → (d ≡ [] → ⊥) → ((m : Lit) → Has d m → SetAt k t (negated m)) → ⊥
not_all_low known k t [] closed quiet hd ne all = ne refl
not_all_low known k t (m ∷ d) closed quiet hd ne all = quiet m (closed (m ∷ d) m hd (Has-head m d) (λ x hx n. all x hx)) (all m (Has-head m d))

pub going_start : (known : List (List Lit)) (level : ℕ) (t : List Entry) (j : ℕ) (d : List Lit) → Holds known level t → ((c : List Lit) → In known c → c ≡ [] → ⊥) → slice_get known j ≡ Some d → ((m : Lit) → Has d m → Set t (negated m)) → Going known level t j d []
going_start known level t j d h some gets false_in = record {
  ok = h.ok;
  low = h.low;
  all = h.all;
  start = d;
  gets = gets;
  an = record {
    chain = refl;
    differ = refl;
    away = λ l s. refl;
    falsified = false_in;
    touches = λ lt. let q : level - 1 < level = omega arith in
        elim (low_or (level - 1) t d) [ inr w ↦ w | inl all ↦ absurd (not_all_low known (level - 1) t d (h.low (level - 1) q) (quiet_at known t (level - 1) h.ok) (In-get known j d gets) (some d (In-get known j d gets)) all) ];
  };
}
