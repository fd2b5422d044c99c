-- Values and levels beside the trail.
use Rattle.std.proofs.Common.{◌≡◌, ℕ, ◌+◌, ◌*◌, ◌<◌, ◌≤◌, Bool, true, false, cond, not, ◌&&◌, List, [], ◌∷◌, ◌++◌, ◌⊎◌, inl, inr, refl, sym, ap, ◌∙◌, subst, arith, length, get_or, set, get_or-set_other, get_or-set_same, nat_le}
use Rattle.std.proofs.lemmas.Bool.{both_ways, cases_Bool, false_from_ne_true, cases_eq, leb-true, le-leb, and_parts, or_left, or_right, or_cases, and_from, not-true}
use Rattle.std.proofs.lemmas.List.{get_or_past}
use Rattle.prop.specs.declared.Lit.{Lit}
use Rattle.prop.specs.Logic.{negated}
use Rattle.prop.specs.Trues.{listed}
use Rattle.prop.proofs.Sets.{lit_cases, same-from, same-true}
use Rattle.resolution_log.specs.Codes.{code_of, place}
use Rattle.resolution_log.proofs.Places.{bool_same, code_inj, code_below, place_below, place_inj, place_absent}
use Rattle.clause_learning.specs.declared.Entry.{Entry}
use Rattle.clause_learning.specs.Trail.{set_in, Set, set_at, SetAt}
use Rattle.clause_learning.specs.Covers.{Valued, Levelled, IsCovered, distinct, RisesFrom, last_level}
use Rattle.prop.specs.Steps.{same}
use Rattle.clause_learning.proofs.TrailLaws.{Set-push, Set-left, Set-last, SetAt-push, SetAt-left, SetAt-last, Set-at}
use Rattle.clause_learning.proofs.AnalysisLaws.{var_cases}

fresh_ne : (t : List Entry) (e : Entry) (l : Lit) → (Set t e.lit → ⊥) → Set t l → e.lit ≡ l → ⊥
fresh_ne t e l fresh s q = fresh (subst (Set t) (sym q) s)

in_push : (t : List Entry) (e : Entry) (l : Lit) → (e.lit ≡ l → ⊥) → set_in t l ≡ set_in (t ++ (e ∷ [])) l
in_push t e l n = bool_same _ _ (λ s. Set-left t (e ∷ []) l s) (λ s. elim (Set-push t e l s) [ inl a ↦ a | inr q ↦ absurd (n q) ])

at_push : (k : ℕ) (t : List Entry) (e : Entry) (l : Lit) → (e.lit ≡ l → ⊥) → set_at k t l ≡ set_at k (t ++ (e ∷ [])) l
at_push k t e l n = bool_same _ _ (λ s. SetAt-left k t (e ∷ []) l s) (λ s. elim (SetAt-push k t e l s) [ inl a ↦ a | inr q ↦ absurd (n q.0) ])

module _ (vars : List ℕ) (t : List Entry) (e : Entry) (at : ℕ) (is : at ≡ code_of vars e.lit) where
  valued_set : (truth : List Bool) (b : Bool) (x y : List Entry) → at < length truth → set_in y e.lit ≡ b → ((l : Lit) → (e.lit ≡ l → ⊥) → set_in x l ≡ set_in y l) → Valued vars truth x → Valued vars (set truth at b) y
  valued_set truth b x y lt here others v l = go (cases_eq (code_of vars l) at)
    where
      go : (code_of vars l ≡ at) ⊎ (code_of vars l ≡ at → ⊥) → get_or (set truth at b) (code_of vars l) false ≡ set_in y l
      go (inl q) =
          let s : e.lit ≡ l = sym (code_inj vars l e.lit (q ∙ is)) in
          subst (λ w. get_or (set truth at b) w false ≡ set_in y l) (sym q) (get_or-set_same truth at b false lt ∙ sym here ∙ ap (set_in y) s)
      go (inr n) = get_or-set_other truth at (code_of vars l) b false n ∙ v l ∙ others l (λ q. n (ap (code_of vars) (sym q) ∙ sym is))

  pub valued_push : (truth : List Bool) → at < length truth → Valued vars truth t → Valued vars (set truth at true) (t ++ (e ∷ []))
  valued_push truth lt v = valued_set truth true t (t ++ (e ∷ [])) lt (Set-last t e) (λ l n. in_push t e l n) v

  pub valued_pop : (truth : List Bool) → at < length truth → (Set t e.lit → ⊥) → Valued vars truth (t ++ (e ∷ [])) → Valued vars (set truth at false) t
  valued_pop truth lt fresh v = valued_set truth false (t ++ (e ∷ [])) t lt (false_from_ne_true _ fresh) (λ l n. sym (in_push t e l n)) v

pub levelled_push : (vars levels : List ℕ) (t : List Entry) (e : Entry) (n : ℕ) → n ≡ place vars e.lit.var → n < length levels → (Set t e.lit → ⊥) → (Set t (negated e.lit) → ⊥) → Levelled vars levels t → Levelled vars (set levels n e.level) (t ++ (e ∷ []))
levelled_push vars levels t e n is lt free free_not v l s k = elim (Set-push t e l s) [ inl a ↦ old a | inr q ↦ new q ]
  where
    old : Set t l → nat_le (get_or (set levels n e.level) (place vars l.var) 0) k ≡ set_at k (t ++ (e ∷ [])) l
    old a =
        let other : place vars l.var ≡ n → ⊥ = λ q. elim (var_cases l e.lit (place_inj vars l.var e.lit.var (q ∙ is))) [ inl x ↦ free (subst (Set t) x a) | inr x ↦ free_not (subst (Set t) x a) ] in
        ap (λ w. nat_le w k) (get_or-set_other levels n (place vars l.var) e.level 0 other) ∙ v l a k ∙ at_push k t e l (fresh_ne t e l free a)

    new : e.lit ≡ l → nat_le (get_or (set levels n e.level) (place vars l.var) 0) k ≡ set_at k (t ++ (e ∷ [])) l
    new q =
        let p : place vars l.var ≡ n = ap (λ (w : Lit). place vars w.var) (sym q) ∙ sym is in
        let h : nat_le e.level k ≡ set_at k (t ++ (e ∷ [])) e.lit = bool_same _ _ (λ b. SetAt-last k t e (leb-true e.level k b)) (λ b. elim (SetAt-push k t e e.lit b) [ inl a ↦ absurd (free (Set-at k t e.lit a)) | inr r ↦ le-leb e.level k r.1 ]) in
        ap (λ w. nat_le (get_or (set levels n e.level) w 0) k) p ∙ ap (λ w. nat_le w k) (get_or-set_same levels n e.level 0 lt) ∙ h ∙ ap (set_at k (t ++ (e ∷ []))) q

pub levelled_pop : (vars levels : List ℕ) (t : List Entry) (e : Entry) → (Set t e.lit → ⊥) → Levelled vars levels (t ++ (e ∷ [])) → Levelled vars levels t
levelled_pop vars levels t e fresh v l s k = v l (Set-left t (e ∷ []) l s) k ∙ sym (at_push k t e l (fresh_ne t e l fresh s))

pub covered_push : (vars : List ℕ) (t : List Entry) (e : Entry) → listed vars e.lit.var ≡ true → IsCovered vars t → IsCovered vars (t ++ (e ∷ []))
covered_push vars t e h v l s = elim (Set-push t e l s) [ inl a ↦ v l a | inr q ↦ subst (λ (w : Lit). listed vars w.var ≡ true) q h ]

pub covered_pop : (vars : List ℕ) (t : List Entry) (e : Entry) → IsCovered vars (t ++ (e ∷ [])) → IsCovered vars t
covered_pop vars t e v l s = v l (Set-left t (e ∷ []) l s)

-- a look at a level
pub level_read : (vars levels : List ℕ) (truth : List Bool) (t : List Entry) (l : Lit) (k : ℕ) → Valued vars truth t → Levelled vars levels t → (get_or truth (code_of vars l) false && nat_le (get_or levels (place vars l.var) 0) k) ≡ set_at k t l
level_read vars levels truth t l k v w = bool_same _ _ to from
  where
    to : (get_or truth (code_of vars l) false && nat_le (get_or levels (place vars l.var) 0) k) ≡ true → set_at k t l ≡ true
    to h = let p = and_parts (get_or truth (code_of vars l) false) (nat_le (get_or levels (place vars l.var) 0) k) h in sym (w l (sym (v l) ∙ p.0) k) ∙ p.1

    from : set_at k t l ≡ true → (get_or truth (code_of vars l) false && nat_le (get_or levels (place vars l.var) 0) k) ≡ true
    from h = let s = Set-at k t l h in ap (λ b. b && nat_le (get_or levels (place vars l.var) 0) k) (v l ∙ s) ∙ w l s k ∙ h

pub level_absent : (vars : List ℕ) (truth : List Bool) (t : List Entry) (l : Lit) (k : ℕ) → length truth ≡ 2 * length vars → listed vars l.var ≡ false → Valued vars truth t → set_at k t l ≡ false
level_absent vars truth t l k wide h v = false_from_ne_true _ (λ s. both_ways false refl (sym (get_or_past truth (code_of vars l) false past) ∙ v l ∙ Set-at k t l s))
  where
    past : length truth ≤ code_of vars l
    past = let q = place_absent vars l.var h in omega (arith, q, wide)

pub level_else : (vars levels : List ℕ) (truth : List Bool) (t : List Entry) (l : Lit) (k : ℕ) (d : Bool) → d ≡ false → get_or truth (code_of vars l) d ≡ false → Valued vars truth t → set_at k t l ≡ false
level_else vars levels truth t l k d is h v = false_from_ne_true _ (λ s. both_ways false refl (sym (subst (λ w. get_or truth (code_of vars l) w ≡ false) is h) ∙ v l ∙ Set-at k t l s))

-- the literals of the trail differ
parts : (t : List Entry) (e : Entry) → distinct (e ∷ t) ≡ true → (Set t e.lit → ⊥) × (distinct t ≡ true)
parts t e d = let p = and_parts (not (set_in t e.lit)) (distinct t) d in ((λ s. both_ways (set_in t e.lit) (not-true (set_in t e.lit) p.0) s), p.1)

whole : (t : List Entry) (e : Entry) → (Set t e.lit → ⊥) → distinct t ≡ true → distinct (e ∷ t) ≡ true
whole t e f d = and_from (not (set_in t e.lit)) (distinct t) (ap not (false_from_ne_true (set_in t e.lit) f)) d

pub distinct_push : (t : List Entry) (e : Entry) → (Set t e.lit → ⊥) → distinct t ≡ true → distinct (t ++ (e ∷ [])) ≡ true
distinct_push [] e f d = refl
distinct_push (x ∷ t) e f d =
    let p = parts t x d in
    whole (t ++ (e ∷ [])) x (λ s. elim (Set-push t e x.lit s) [ inl a ↦ p.0 a | inr q ↦ f (or_left _ _ (same-from x.lit e.lit (sym q))) ]) (distinct_push t e (λ s. f (or_right _ _ s)) p.1)

pub distinct_pop : (t : List Entry) (e : Entry) → distinct (t ++ (e ∷ [])) ≡ true → (Set t e.lit → ⊥) × (distinct t ≡ true)
distinct_pop [] e d = ((λ s. both_ways false refl s), refl)
distinct_pop (x ∷ t) e d =
    let p = parts (t ++ (e ∷ [])) x d in
    let ih = distinct_pop t e p.1 in
    ((λ s. elim (or_cases (same x.lit e.lit) (set_in t e.lit) s) [ inl a ↦ p.0 (subst (Set (t ++ (e ∷ []))) (sym (same-true x.lit e.lit a)) (Set-last t e)) | inr b ↦ ih.0 b ]), whole t x (λ s. p.0 (Set-left t (e ∷ []) x.lit s)) ih.1)

-- levels
pub rises_push : (p : ℕ) (t : List Entry) (e : Entry) → last_level p t ≤ e.level → e.level ≤ last_level p t + 1 → RisesFrom p t → RisesFrom p (t ++ (e ∷ []))
rises_push p [] e a b r = (a, b, tt)
rises_push p (x ∷ t) e a b r = (r.0, r.1, rises_push x.level t e a b r.2)

pub rises_pop : (p : ℕ) (t : List Entry) (e : Entry) → RisesFrom p (t ++ (e ∷ [])) → RisesFrom p t × (last_level p t ≤ e.level) × (e.level ≤ last_level p t + 1)
rises_pop p [] e r = (tt, r.0, r.1)
rises_pop p (x ∷ t) e r = let ih = rises_pop x.level t e r.2 in ((r.0, r.1, ih.0), ih.1, ih.2)

pub last_push : (p : ℕ) (t : List Entry) (e : Entry) → last_level p (t ++ (e ∷ [])) ≡ e.level
last_push p [] e = refl
last_push p (x ∷ t) e = last_push x.level t e

pub last_below : (p : ℕ) (t : List Entry) → RisesFrom p t → last_level p t ≤ p + length t
last_below p [] r = omega arith
last_below p (x ∷ t) r = let ih = last_below x.level t r.2 in omega (arith, ih, r.1)
