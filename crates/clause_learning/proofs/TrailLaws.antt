-- Laws of the trail.
use Rattle.std.proofs.Common.{◌≡◌, ℕ, ◌+◌, ◌-◌, ◌<◌, ◌≤◌, Bool, true, false, not, ◌&&◌, ◌||◌, cond, List, [], ◌∷◌, ◌++◌, Option, Some, None, slice_get, nat_eq, nat_le, zero, suc, ◌⊎◌, inl, inr, refl, sym, ap, ◌∙◌, subst, arith, append_assoc, append-nil, length, length-append}
use Rattle.std.proofs.lemmas.Bool.{and_parts, and_from, or_cases, or_left, or_right, or_from, or_parts, both_ways, cases_Bool, leb-true, le-leb, eq-eqb, ne_eqb, eqb-true, false_from_ne_true, and_right, and_left, not_from_false}
use Rattle.prop.specs.declared.Lit.{Lit}
use Rattle.clause_learning.specs.declared.Entry.{Entry}
use Rattle.clause_learning.specs.Trail.{set_in, Set, set_at, SetAt, Why, EntryOk, TrailOk, TrailOk.none_set, TrailOk.one_more, LowerClosed, Analysed, Learnt}
use Rattle.prop.proofs.Sets.{same-true, same_refl, same-from, lit_cases, negated_twice, negated_ne, negated_swap, Has-append, Has-without, Has-left, Has-right, Has-kept, Has-head, Has-tail, Has-cons, In-get, In-left, In-right, In-append}
use Rattle.resolution_log.proofs.Results.{then_parts}
use Rattle.resolution_log.proofs.Propagates.{is_new}
use Rattle.prop.specs.Logic.{negated, positive_of}
use Rattle.prop.specs.Steps.{same, negative_of, has, Has, without, In, crosses, resolved, one_way, resolve}
use Rattle.resolution_log.specs.Chains.{then_with, chain_from, absent, pivots_differ}
use Rattle.resolution_log.specs.Propagation.{Quiet, Closed, IsNew}

pub Set-append : (t u : List Entry) (l : Lit) → Set (t ++ u) l → Set t l ⊎ Set u l
Set-append [] u l h = inr h
Set-append (e ∷ t) u l h = elim (or_cases (same e.lit l) (set_in (t ++ u) l) h) [ inl a ↦ inl (or_left _ _ a) | inr b ↦ elim (Set-append t u l b) [ inl x ↦ inl (or_right _ _ x) | inr y ↦ inr y ] ]

pub Set-left : (t u : List Entry) (l : Lit) → Set t l → Set (t ++ u) l
Set-left [] u l h = absurd cc
Set-left (e ∷ t) u l h = elim (or_cases (same e.lit l) (set_in t l) h) [ inl a ↦ or_left _ _ a | inr b ↦ or_right _ _ (Set-left t u l b) ]

pub Set-right : (t u : List Entry) (l : Lit) → Set u l → Set (t ++ u) l
Set-right [] u l h = h
Set-right (e ∷ t) u l h = or_right _ _ (Set-right t u l h)

pub Set-push : (t : List Entry) (e : Entry) (l : Lit) → Set (t ++ (e ∷ [])) l → Set t l ⊎ (e.lit ≡ l)
Set-push t e l h = elim (Set-append t (e ∷ []) l h) [ inl a ↦ inl a | inr b ↦ elim (or_cases (same e.lit l) false b) [ inl x ↦ inr (same-true e.lit l x) | inr y ↦ absurd cc ] ]

pub Set-last : (t : List Entry) (e : Entry) → Set (t ++ (e ∷ [])) e.lit
Set-last t e = Set-right t (e ∷ []) e.lit (or_left _ _ (same_refl e.lit))

pub SetAt-append : (k : ℕ) (t u : List Entry) (l : Lit) → SetAt k (t ++ u) l → SetAt k t l ⊎ SetAt k u l
SetAt-append k [] u l h = inr h
SetAt-append k (e ∷ t) u l h = elim (or_cases (same e.lit l && nat_le e.level k) (set_at k (t ++ u) l) h) [ inl a ↦ inl (or_left _ _ a) | inr b ↦ elim (SetAt-append k t u l b) [ inl x ↦ inl (or_right _ _ x) | inr y ↦ inr y ] ]

pub SetAt-left : (k : ℕ) (t u : List Entry) (l : Lit) → SetAt k t l → SetAt k (t ++ u) l
SetAt-left k [] u l h = absurd cc
SetAt-left k (e ∷ t) u l h = elim (or_cases (same e.lit l && nat_le e.level k) (set_at k t l) h) [ inl a ↦ or_left _ _ a | inr b ↦ or_right _ _ (SetAt-left k t u l b) ]

pub SetAt-right : (k : ℕ) (t u : List Entry) (l : Lit) → SetAt k u l → SetAt k (t ++ u) l
SetAt-right k [] u l h = h
SetAt-right k (e ∷ t) u l h = or_right _ _ (SetAt-right k t u l h)

pub SetAt-push : (k : ℕ) (t : List Entry) (e : Entry) (l : Lit) → SetAt k (t ++ (e ∷ [])) l → SetAt k t l ⊎ ((e.lit ≡ l) × (e.level ≤ k))
SetAt-push k t e l h = elim (SetAt-append k t (e ∷ []) l h) [ inl a ↦ inl a | inr b ↦ elim (or_cases (same e.lit l && nat_le e.level k) false b) [ inl x ↦ inr (same-true e.lit l (and_parts _ _ x).0, leb-true e.level k (and_parts _ _ x).1) | inr y ↦ absurd cc ] ]

pub SetAt-last : (k : ℕ) (t : List Entry) (e : Entry) → e.level ≤ k → SetAt k (t ++ (e ∷ [])) e.lit
SetAt-last k t e h = SetAt-right k t (e ∷ []) e.lit (or_left _ _ (and_from _ _ (same_refl e.lit) (le-leb e.level k h)))

at_parts : (k : ℕ) (e : Entry) (t : List Entry) (l : Lit) → SetAt k (e ∷ t) l → ((same e.lit l ≡ true) × (e.level ≤ k)) ⊎ SetAt k t l
at_parts k e t l h = elim (or_cases (same e.lit l && nat_le e.level k) (set_at k t l) h) [ inl a ↦ inl (let p = and_parts (same e.lit l) (nat_le e.level k) a in (p.0, leb-true e.level k p.1)) | inr b ↦ inr b ]

at_head : (k : ℕ) (e : Entry) (t : List Entry) (l : Lit) → same e.lit l ≡ true → e.level ≤ k → SetAt k (e ∷ t) l
at_head k e t l s h = or_left (same e.lit l && nat_le e.level k) (set_at k t l) (and_from (same e.lit l) (nat_le e.level k) s (le-leb e.level k h))

pub Set-at : (k : ℕ) (t : List Entry) (l : Lit) → SetAt k t l → Set t l
Set-at k [] l h = absurd cc
Set-at k (e ∷ t) l h = elim (at_parts k e t l h) [ inl a ↦ or_left (same e.lit l) (set_in t l) a.0 | inr b ↦ or_right (same e.lit l) (set_in t l) (Set-at k t l b) ]

pub SetAt-up : (j k : ℕ) (t : List Entry) (l : Lit) → j ≤ k → SetAt j t l → SetAt k t l
SetAt-up j k [] l le h = absurd cc
SetAt-up j k (e ∷ t) l le h = elim (at_parts j e t l h) [ inl a ↦ at_head k e t l a.0 (up a.1) | inr b ↦ or_right (same e.lit l && nat_le e.level k) (set_at k t l) (SetAt-up j k t l le b) ]
  where
    up : e.level ≤ j → e.level ≤ k
    up h = omega arith

-- two lists with a last element
pub snoc_parts : (s t : List Entry) (d e : Entry) → s ++ (d ∷ []) ≡ t ++ (e ∷ []) → (s ≡ t) × (d ≡ e)
snoc_parts [] [] d e h = (refl, cc)
snoc_parts [] (y ∷ t) d e h = let p : [] ≡ t ++ (e ∷ []) = cc in absurd (no_snoc t e p)
  where
    no_snoc : (t : List Entry) (e : Entry) → [] ≡ t ++ (e ∷ []) → ⊥
    no_snoc [] e p = cc
    no_snoc (y ∷ t) e p = cc
snoc_parts (x ∷ s) [] d e h = let p : s ++ (d ∷ []) ≡ [] = cc in absurd (no_snoc s d p)
  where
    no_snoc : (t : List Entry) (e : Entry) → t ++ (e ∷ []) ≡ [] → ⊥
    no_snoc [] e p = cc
    no_snoc (y ∷ t) e p = cc
snoc_parts (x ∷ s) (y ∷ t) d e h =
    let p : x ≡ y = cc in
    let q : s ++ (d ∷ []) ≡ t ++ (e ∷ []) = cc in
    let r = snoc_parts s t d e q in
    (cc, r.1)

pub last_ok : (known : List (List Lit)) (x t : List Entry) (e : Entry) → TrailOk known x → x ≡ t ++ (e ∷ []) → TrailOk known t × EntryOk known t e
last_ok known x t e (none_set n) h = absurd (no_snoc t e (sym n ∙ h))
  where
    no_snoc : (t : List Entry) (e : Entry) → [] ≡ t ++ (e ∷ []) → ⊥
    no_snoc [] e p = cc
    no_snoc (y ∷ t) e p = cc
last_ok known x t e (one_more s d ok entry is) h =
    let r = snoc_parts s t d e (sym is ∙ h) in
    (subst (TrailOk known) r.0 ok, subst (λ w. EntryOk known t w) r.1 (subst (λ w. EntryOk known w d) r.0 entry))

pub quiet_trail : (known : List (List Lit)) (x : List Entry) → TrailOk known x → Quiet (Set x)
quiet_trail known x (none_set n) l a b = let p : set_in [] l ≡ true = subst (λ w. Set w l) n a in absurd cc
quiet_trail known x (one_more t e ok entry is) l a b =
    elim (Set-push t e l (subst (λ w. Set w l) is a)) [
      | inl p ↦ elim (Set-push t e (negated l) (subst (λ w. Set w (negated l)) is b)) [
        | inl q ↦ quiet_trail known t ok l p q
        | inr q ↦ entry.fresh_not (subst (Set t) (negated_swap l e.lit (sym q)) p)
      ]
      | inr p ↦ elim (Set-push t e (negated l) (subst (λ w. Set w (negated l)) is b)) [
        | inl q ↦ entry.fresh_not (subst (λ w. Set t (negated w)) (sym p) q)
        | inr q ↦ negated_ne l (sym p ∙ q)
      ]
    ]

pub quiet_at : (known : List (List Lit)) (x : List Entry) (k : ℕ) → TrailOk known x → Quiet (SetAt k x)
quiet_at known x k ok l a b = quiet_trail known x ok l (Set-at k x l a) (Set-at k x (negated l) b)

-- a lower level doesn't see the last entry
pub SetAt-pop : (k : ℕ) (t : List Entry) (e : Entry) (l : Lit) → k < e.level → SetAt k (t ++ (e ∷ [])) l → SetAt k t l
SetAt-pop k t e l lt h = elim (SetAt-push k t e l h) [ inl a ↦ a | inr b ↦ absurd (wrong b.1) ]
  where
    wrong : e.level ≤ k → ⊥
    wrong h = omega arith

pub Closed-same : (known : List (List Lit)) (S R : Lit → Type 0) → ((l : Lit) → S l → R l) → ((l : Lit) → R l → S l) → Closed known S → Closed known R
Closed-same known S R to from closed c l k h others = to l (closed c l k h (λ m hm ne. from (negated m) (others m hm ne)))

pub LowerClosed-pop : (known : List (List Lit)) (low : ℕ) (t : List Entry) (e : Entry) → low ≤ e.level → LowerClosed known low (t ++ (e ∷ [])) → LowerClosed known low t
LowerClosed-pop known low t e le h k lt =
    let q : k < e.level = omega arith in
    Closed-same known (SetAt k (t ++ (e ∷ []))) (SetAt k t) (λ l s. SetAt-pop k t e l q s) (λ l s. SetAt-left k t (e ∷ []) l s) (h k lt)

pub LowerClosed-push : (known : List (List Lit)) (low : ℕ) (t : List Entry) (e : Entry) → low ≤ e.level → LowerClosed known low t → LowerClosed known low (t ++ (e ∷ []))
LowerClosed-push known low t e le h k lt =
    let q : k < e.level = omega arith in
    Closed-same known (SetAt k t) (SetAt k (t ++ (e ∷ []))) (λ l s. SetAt-left k t (e ∷ []) l s) (λ l s. SetAt-pop k t e l q s) (h k lt)

pub LowerClosed-fewer : (known : List (List Lit)) (low high : ℕ) (t : List Entry) → low ≤ high → LowerClosed known high t → LowerClosed known low t
LowerClosed-fewer known low high t le h k lt = h k (omega arith)

-- a new level, where the trail is closed
pub LowerClosed-open : (known : List (List Lit)) (level : ℕ) (t : List Entry) → Closed known (Set t) → ((l : Lit) → Set t l → SetAt level t l) → LowerClosed known level t → LowerClosed known (level + 1) t
LowerClosed-open known level t closed all h k lt = go (below_or k level lt)
  where
    below_or : (k level : ℕ) → k < level + 1 → (k < level) ⊎ (k ≡ level)
    below_or k level lt = grind arith

    go : (k < level) ⊎ (k ≡ level) → Closed known (SetAt k t)
    go (inl a) = h k a
    go (inr b) = subst (λ w. Closed known (SetAt w t)) (sym b) (Closed-same known (Set t) (SetAt level t) all (λ l s. Set-at level t l s) closed)

-- more clauses
pub get-more : (xs ys : List (List Lit)) (k : ℕ) (c : List Lit) → slice_get xs k ≡ Some c → slice_get (xs ++ ys) k ≡ Some c
get-more [] ys k c h = absurd cc
get-more (x ∷ xs) ys zero c h = h
get-more (x ∷ xs) ys (suc k) c h = get-more xs ys k c h

why_more : (known more' : List (List Lit)) (t : List Entry) (e : Entry) (r : Option ℕ) → Why known t e r → Why (known ++ more') t e r
why_more known more' t e None w = w
why_more known more' t e (Some r) (c, g, h, o) = (c, get-more known more' r c g, h, o)

pub TrailOk-more : (known more' : List (List Lit)) (x : List Entry) → TrailOk known x → TrailOk (known ++ more') x
TrailOk-more known more' x (none_set n) = none_set n
TrailOk-more known more' x (one_more t e ok entry is) =
    one_more t e (TrailOk-more known more' t ok) (record { fresh = entry.fresh; fresh_not = entry.fresh_not; above = entry.above; why = why_more known more' t e e.reason entry.why }) is
