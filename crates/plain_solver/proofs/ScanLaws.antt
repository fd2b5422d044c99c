-- What a scan of the clauses finds.
use Rattle.std.proofs.Common.{◌≡◌, ℕ, ◌+◌, ◌-◌, ◌<◌, ◌≤◌, Bool, true, false, not, ◌&&◌, ◌||◌, cond, List, [], ◌∷◌, ◌++◌, Option, Some, None, slice_get, zero, suc, ◌⊎◌, inl, inr, refl, sym, ap, ◌∙◌, subst, arith, add-zero, drop}
use Rattle.std.proofs.lemmas.Bool.{both_ways, cases_Bool, and_from}
use Rattle.prop.proofs.Sound.{holds_by}
use Rattle.prop.proofs.All.{drop_next}
use Rattle.prop.specs.Logic.{clause_holds, all_hold}
use Rattle.prop.specs.declared.Lit.{Lit}
use Rattle.clause_learning.specs.declared.Entry.{Entry}
use Rattle.plain_solver.specs.declared.trail.Look.{Look}
use Rattle.plain_solver.specs.declared.trail.Look.TheVariants.{AllFalse, Lone, Satisfied, Open}
use Rattle.plain_solver.specs.declared.trail.Found.{Found}
use Rattle.plain_solver.specs.declared.trail.Found.TheVariants.{Conflict, Implied, Free, Done}
use Rattle.clause_learning.specs.Trail.{set_in, Set}
use Rattle.plain_solver.specs.Scan.{look_on, look_end, look_of, scan_on, scan_end, scan_of}
use Rattle.prop.proofs.Sets.{same-true, same_refl, lit_cases, negated_twice, negated_swap, Has-head, Has-tail, Has-cons, In-get}
use Rattle.prop.specs.Logic.{negated, positive_of, lit_value}
use Rattle.prop.specs.Steps.{same, has, Has, In}
use Rattle.resolution_log.specs.Propagation.{Quiet, Closed}

pub record Here (t : List Entry) (c : List Lit) (l : Lit) : Type 0 where
  pub in_it : Has c l
  pub free : Set t l → ⊥
  pub free_not : Set t (negated l) → ⊥

abbrev pub LookOk : List Entry → List Lit → Option Lit → Look → Type 0
LookOk t c u AllFalse = (u ≡ None) × ((m : Lit) → Has c m → Set t (negated m))
LookOk t c u (Lone l) = ((u ≡ Some l) ⊎ ((u ≡ None) × Here t c l)) × ((m : Lit) → Has c m → (m ≡ l → ⊥) → Set t (negated m))
LookOk t c u Satisfied = (m : Lit) × Has c m × Set t m
LookOk t c u (Open l) = Here t c l × ((a : Lit) × (a ≡ l → ⊥) × ((u ≡ Some a) ⊎ Here t c a))

more_here : (t : List Entry) (c : List Lit) (m l : Lit) → Here t c l → Here t (m ∷ c) l
more_here t c m l h = record { in_it = Has-tail m c l h.in_it; free = h.free; free_not = h.free_not }

-- a literal that is false
lift_false : (t : List Entry) (c : List Lit) (m : Lit) (u : Option Lit) → Set t (negated m) → (r : Look) → LookOk t c u r → LookOk t (m ∷ c) u r
lift_false t c m u s AllFalse h = (h.0, λ x hx. elim (Has-cons m c x hx) [ inl e ↦ subst (λ w. Set t (negated w)) e s | inr b ↦ h.1 x b ])
lift_false t c m u s (Lone l) h = (elim h.0 [ inl a ↦ inl a | inr b ↦ inr (b.0, more_here t c m l b.1) ], λ x hx n. elim (Has-cons m c x hx) [ inl e ↦ subst (λ w. Set t (negated w)) e s | inr b ↦ h.1 x b n ])
lift_false t c m u s Satisfied (x, hx, sx) = (x, Has-tail m c x hx, sx)
lift_false t c m u s (Open l) (h, (a, n, w)) = (more_here t c m l h, (a, n, elim w [ inl p ↦ inl p | inr q ↦ inr (more_here t c m a q) ]))

-- the first literal without a value
lift_first : (t : List Entry) (c : List Lit) (m : Lit) → (Set t m → ⊥) → (Set t (negated m) → ⊥) → (r : Look) → LookOk t c (Some m) r → LookOk t (m ∷ c) None r
lift_first t c m f g AllFalse h = let e : Some m ≡ None = h.0 in absurd cc
lift_first t c m f g (Lone l) h = elim h.0 [
  | inl p ↦ let e : m ≡ l = cc in (inr (refl, record { in_it = subst (Has (m ∷ c)) e (Has-head m c); free = subst (λ w. Set t w → ⊥) e f; free_not = subst (λ w. Set t (negated w) → ⊥) e g }), λ x hx n. elim (Has-cons m c x hx) [ inl q ↦ absurd (n (sym q ∙ e)) | inr b ↦ h.1 x b n ])
  | inr q ↦ let e : Some m ≡ None = q.0 in absurd cc
]
lift_first t c m f g Satisfied (x, hx, sx) = (x, Has-tail m c x hx, sx)
lift_first t c m f g (Open l) (h, (a, n, w)) = (more_here t c m l h, (a, n, inr (elim w [ inl p ↦ (let e : m ≡ a = cc in record { in_it = subst (Has (m ∷ c)) e (Has-head m c); free = subst (λ w. Set t w → ⊥) e f; free_not = subst (λ w. Set t (negated w) → ⊥) e g }) | inr q ↦ more_here t c m a q ])))

-- the same one again
lift_again : (t : List Entry) (c : List Lit) (m a : Lit) → a ≡ m → (r : Look) → LookOk t c (Some a) r → LookOk t (m ∷ c) (Some a) r
lift_again t c m a e AllFalse h = let k : Some a ≡ None = h.0 in absurd cc
lift_again t c m a e (Lone l) h = (elim h.0 [ inl p ↦ inl p | inr q ↦ (let k : Some a ≡ None = q.0 in absurd cc) ], λ x hx n. elim (Has-cons m c x hx) [ inl q ↦ elim h.0 [ inl p ↦ (let k : a ≡ l = cc in absurd (n (sym q ∙ sym e ∙ k))) | inr p ↦ (let k : Some a ≡ None = p.0 in absurd cc) ] | inr b ↦ h.1 x b n ])
lift_again t c m a e Satisfied (x, hx, sx) = (x, Has-tail m c x hx, sx)
lift_again t c m a e (Open l) (h, (b, n, w)) = (more_here t c m l h, (b, n, elim w [ inl p ↦ inl p | inr q ↦ inr (more_here t c m b q) ]))

look_last : (t : List Entry) (c : List Lit) (m a : Lit) → (Set t m → ⊥) → (Set t (negated m) → ⊥) → LookOk t c (Some a) (look_of t c (Some a)) → (b : Bool) → same a m ≡ b → LookOk t (m ∷ c) (Some a) (cond b (look_of t c (Some a)) (Open m))
look_last t c m a f g ih true e = lift_again t c m a (same-true a m e) (look_of t c (Some a)) ih
look_last t c m a f g ih false e = (record { in_it = Has-head m c; free = f; free_not = g }, (a, (λ q. ne q), inl refl))
  where
    ne : a ≡ m → ⊥
    ne q = both_ways (same a m) e (same_at q)
      where
        same_at : a ≡ m → same a m ≡ true
        same_at q = subst (λ w. same a w ≡ true) q (same_refl a)

look_step : (t : List Entry) (c : List Lit) (m : Lit) (u : Option Lit) → ((v : Option Lit) → LookOk t c v (look_of t c v)) → (p q : Bool) → set_in t m ≡ p → set_in t (negated m) ≡ q → LookOk t (m ∷ c) u (look_on p q m u (look_of t c))
look_step t c m u ih true q a b = (m, Has-head m c, a)
look_step t c m u ih false true a b = lift_false t c m u b (look_of t c u) (ih u)
look_step t c m None ih false false a b = lift_first t c m (λ s. both_ways (set_in t m) a s) (λ s. both_ways (set_in t (negated m)) b s) (look_of t c (Some m)) (ih (Some m))
look_step t c m (Some l) ih false false a b = look_last t c m l (λ s. both_ways (set_in t m) a s) (λ s. both_ways (set_in t (negated m)) b s) (ih (Some l)) (same l m) refl

pub look_ok : (t : List Entry) (c : List Lit) (u : Option Lit) → LookOk t c u (look_of t c u)
look_ok t [] None = (refl, λ m h. absurd (both_ways false refl h))
look_ok t [] (Some l) = (inl refl, λ m h n. absurd (both_ways false refl h))
look_ok t (m ∷ c) u = look_step t c m u (λ v. look_ok t c v) (set_in t m) (set_in t (negated m)) refl refl

-- a clause that neither conflicts nor implies
abbrev pub Calm : List Entry → List Lit → Type 0
Calm t c = ((m : Lit) × Has c m × Set t m) ⊎ ((a : Lit) × (b : Lit) × (a ≡ b → ⊥) × Here t c a × Here t c b)

abbrev pub FoundOk : List Entry → List (List Lit) → ℕ → Option Lit → Found → Type 0
FoundOk t cs k u (Conflict j) = (i : ℕ) × (c : List Lit) × (j ≡ i + k) × (slice_get cs i ≡ Some c) × ((m : Lit) → Has c m → Set t (negated m))
FoundOk t cs k u (Implied j l) = (i : ℕ) × (c : List Lit) × (j ≡ i + k) × (slice_get cs i ≡ Some c) × Here t c l × ((m : Lit) → Has c m → (m ≡ l → ⊥) → Set t (negated m))
FoundOk t cs k u (Free l) = ((c : List Lit) → In cs c → Calm t c) × ((u ≡ Some l) ⊎ ((c : List Lit) × In cs c × Here t c l))
FoundOk t cs k u Done = (u ≡ None) × ((c : List Lit) → In cs c → (m : Lit) × Has c m × Set t m)

past : (t : List Entry) (c : List Lit) (cs : List (List Lit)) (k : ℕ) (u v : Option Lit) → Calm t c → ((x : Lit) → v ≡ Some x → (u ≡ Some x) ⊎ Here t c x) → (v ≡ None → (u ≡ None) × ((m : Lit) × Has c m × Set t m)) → (r : Found) → FoundOk t cs (k + 1) v r → FoundOk t (c ∷ cs) k u r
past t c cs k u v calm free done (Conflict j) (i, d, e, g, f) = (suc i, d, omega arith, g, f)
past t c cs k u v calm free done (Implied j l) (i, d, e, g, h, f) = (suc i, d, omega arith, g, h, f)
past t c cs k u v calm free done (Free l) (all, w) = ((λ d hd. elim hd [ inl e ↦ subst (Calm t) (sym e) calm | inr x ↦ all d x ]), elim w [ inl p ↦ elim (free l p) [ inl a ↦ inl a | inr h ↦ inr (c, inl refl, h) ] | inr q ↦ inr (q.0, inr q.1, q.2) ])
past t c cs k u v calm free done Done (e, all) = ((done e).0, λ d hd. elim hd [ inl q ↦ subst (λ w. (m : Lit) × Has w m × Set t m) (sym q) (done e).1 | inr x ↦ all d x ])

scan_step : (t : List Entry) (c : List Lit) (cs : List (List Lit)) (k : ℕ) (u : Option Lit) → ((v : Option Lit) → FoundOk t cs (k + 1) v (scan_of t cs (k + 1) v)) → (r : Look) → LookOk t c None r → FoundOk t (c ∷ cs) k u (scan_on r k u (scan_of t cs (k + 1)))
scan_step t c cs k u ih AllFalse h = (0, c, omega arith, refl, h.1)
scan_step t c cs k u ih (Lone l) h = elim h.0 [ inl a ↦ (let e : None ≡ Some l = a in absurd cc) | inr b ↦ (0, c, omega arith, refl, b.1, h.1) ]
scan_step t c cs k u ih Satisfied h = past t c cs k u u (inl h) (λ x e. inl e) (λ e. (e, h)) (scan_of t cs (k + 1) u) (ih u)
scan_step t c cs k u ih (Open l) (h, (a, n, w)) = past t c cs k u (Some l) (inr (a, l, n, elim w [ inl p ↦ (let e : None ≡ Some a = p in absurd cc) | inr q ↦ q ], h)) (λ x e. let q : l ≡ x = cc in inr (subst (Here t c) q h)) (λ e. absurd cc) (scan_of t cs (k + 1) (Some l)) (ih (Some l))

pub scan_ok : (t : List Entry) (cs : List (List Lit)) (k : ℕ) (u : Option Lit) → FoundOk t cs k u (scan_of t cs k u)
scan_ok t [] k None = (refl, λ c h. absurd h)
scan_ok t [] k (Some l) = ((λ c h. absurd h), inl refl)
scan_ok t (c ∷ cs) k u = scan_step t c cs k u (λ v. scan_ok t cs (k + 1) v) (look_of t c None) (look_ok t c None)

-- calm clauses are closed
pub calm_closed : (t : List Entry) (known : List (List Lit)) → Quiet (Set t) → ((c : List Lit) → In known c → Calm t c) → Closed known (Set t)
calm_closed t known quiet calm c l hc hl others = elim (calm c hc) [
  | inl (m, hm, sm) ↦ elim (lit_cases m l) [ inl e ↦ subst (Set t) e sm | inr n ↦ absurd (quiet m sm (others m hm n)) ]
  | inr (a, b, n, ha, hb) ↦ elim (lit_cases a l) [ inl e ↦ absurd (hb.free_not (others b hb.in_it (λ q. n (e ∙ sym q)))) | inr k ↦ absurd (ha.free_not (others a ha.in_it k)) ]
]

-- one more clause of a scan
pub scan_next : (t : List Entry) (known : List (List Lit)) (i : ℕ) (c : List Lit) (open' : Option Lit) (r : Look) → slice_get known i ≡ Some c → r ≡ look_of t c None → scan_of t known 0 None ≡ scan_of t (drop i known) i open' → scan_of t known 0 None ≡ scan_on r i open' (scan_of t (drop (i + 1) known) (i + 1))
scan_next t known i c open' r g e h = h ∙ ap (λ w. scan_of t w i open') (drop_next known i c g) ∙ ap (λ w. scan_on w i open' (scan_of t (drop (i + 1) known) (i + 1))) (sym e)
