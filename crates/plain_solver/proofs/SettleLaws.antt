-- Laws of propagation and decisions, and of their end.
use Rattle.std.proofs.Common.{◌≡◌, ℕ, ◌+◌, ◌-◌, ◌<◌, ◌≤◌, Bool, true, false, cond, List, [], ◌∷◌, ◌++◌, Option, Some, None, slice_get, zero, suc, ◌⊎◌, inl, inr, refl, sym, ap, ◌∙◌, subst, arith, length, Vec, Global, get_or, length-append}
use Rattle.std.proofs.lemmas.Bool.{both_ways, cases_Bool, or_left}
use Rattle.prop.specs.declared.Lit.{Lit}
use Rattle.clause_learning.specs.declared.Entry.{Entry}
use Rattle.plain_solver.specs.declared.trail.Found.{Found}
use Rattle.plain_solver.specs.declared.trail.Found.TheVariants.{Conflict, Implied, Free, Done}
use Rattle.clause_learning.specs.Trail.{set_in, Set, SetAt, Why, Holds}
use Rattle.plain_solver.specs.Scan.{scan_of}
use Rattle.prop.proofs.Sets.{Has-cons, In-get, same-true}
use Rattle.clause_learning.proofs.TrailLaws.{quiet_trail, Set-left, Set-last}
use Rattle.clause_learning.proofs.JumpLaws.{holds_push, holds_decide}
use Rattle.prop.specs.Trues.{listed}
use Rattle.resolution_log.specs.Codes.{CoversAll}
use Rattle.clause_learning.proofs.CoverLaws.{covers_has, covers_in}
use Rattle.plain_solver.proofs.ScanLaws.{Here, FoundOk, scan_ok, calm_closed}
use Rattle.prop.specs.Logic.{negated}
use Rattle.prop.specs.Steps.{same, has, Has, In}
use Rattle.resolution_log.specs.Propagation.{Closed}

-- how many literals of the clauses aren't true
abbrev pub unset_in : List Entry → List Lit → ℕ
unset_in t [] = 0
unset_in t (m ∷ c) = cond (set_in t m) 0 1 + unset_in t c

abbrev pub unset_all : List Entry → List (List Lit) → ℕ
unset_all t [] = 0
unset_all t (c ∷ cs) = unset_in t c + unset_all t cs

one_less : (t : List Entry) (e : Entry) (m : Lit) → cond (set_in (t ++ (e ∷ [])) m) 0 1 ≤ cond (set_in t m) 0 1
one_less t e m = go (cases_Bool (set_in t m))
  where
    le : (b : Bool) → cond b 0 1 ≤ 1
    le true = omega arith
    le false = omega arith

    go : (set_in t m ≡ true) ⊎ (set_in t m ≡ false) → cond (set_in (t ++ (e ∷ [])) m) 0 1 ≤ cond (set_in t m) 0 1
    go (inl h) = rw (h, Set-left t (e ∷ []) m h) (omega arith)
    go (inr h) = rw h (le (set_in (t ++ (e ∷ [])) m))

unset_less : (t : List Entry) (e : Entry) (c : List Lit) → unset_in (t ++ (e ∷ [])) c ≤ unset_in t c
unset_less t e [] = omega arith
unset_less t e (m ∷ c) = omega (arith, one_less t e m, unset_less t e c)

unset_lt : (t : List Entry) (e : Entry) (c : List Lit) → Has c e.lit → (Set t e.lit → ⊥) → unset_in (t ++ (e ∷ [])) c < unset_in t c
unset_lt t e [] h n = absurd (both_ways false refl h)
unset_lt t e (m ∷ c) h n = elim (Has-cons m c e.lit h) [
  | inl q ↦ omega (arith, first q, unset_less t e c)
  | inr b ↦ omega (arith, one_less t e m, unset_lt t e c b n)
]
  where
    clear : m ≡ e.lit → (set_in t m ≡ true) ⊎ (set_in t m ≡ false) → set_in t m ≡ false
    clear q (inl h) = absurd (n (subst (Set t) q h))
    clear q (inr h) = h

    first : m ≡ e.lit → cond (set_in (t ++ (e ∷ [])) m) 0 1 < cond (set_in t m) 0 1
    first q = rw (clear q (cases_Bool (set_in t m)), subst (Set (t ++ (e ∷ []))) (sym q) (Set-last t e)) (omega arith)

unset_all_less : (t : List Entry) (e : Entry) (cs : List (List Lit)) → unset_all (t ++ (e ∷ [])) cs ≤ unset_all t cs
unset_all_less t e [] = omega arith
unset_all_less t e (c ∷ cs) = omega (arith, unset_less t e c, unset_all_less t e cs)

pub unset_all_lt : (t : List Entry) (e : Entry) (cs : List (List Lit)) (c : List Lit) → In cs c → Has c e.lit → (Set t e.lit → ⊥) → unset_all (t ++ (e ∷ [])) cs < unset_all t cs
unset_all_lt t e [] c hc h n = absurd hc
unset_all_lt t e (d ∷ cs) c hc h n = elim hc [
  | inl q ↦ omega (arith, unset_lt t e d (subst (λ w. Has w e.lit) q h) n, unset_all_less t e cs)
  | inr x ↦ omega (arith, unset_less t e d, unset_all_lt t e cs c x h n)
]

found_at : (t t2 : List Entry) (known : List (List Lit)) (r : Found) → r ≡ scan_of t2 known 0 None → t2 ≡ t → FoundOk t known 0 None r
found_at t t2 known r h a = subst (FoundOk t known 0 None) (sym (subst (λ w. r ≡ scan_of w known 0 None) a h)) (scan_ok t known 0 None)

at_zero : (xs : List (List Lit)) (j i : ℕ) (c : List Lit) → j ≡ i + 0 → slice_get xs i ≡ Some c → slice_get xs j ≡ Some c
at_zero xs j i c e g = let q : i ≡ j = omega arith in subst (λ w. slice_get xs w ≡ Some c) q g

module _ (known : List (List Lit)) (level : ℕ) (t t2 : List Entry) (h : Holds known level t) (a : t2 ≡ t) where
  pub settle_clash : (k : ℕ) → Conflict k ≡ scan_of t2 known 0 None → (c : List Lit) × (slice_get known k ≡ Some c) × ((m : Lit) → Has c m → Set t (negated m))
  settle_clash k e = let (i, c, q, g, f) = found_at t t2 known (Conflict k) e a in (c, at_zero known k i c q g, f)

  pub settle_met : Done ≡ scan_of t2 known 0 None → (c : List Lit) → In known c → (m : Lit) × Has c m × Set t m
  settle_met e = (found_at t t2 known Done e a).1

  pub settle_implied : (k : ℕ) (l : Lit) (t3 : List Entry) → Implied k l ≡ scan_of t2 known 0 None → t3 ≡ t ++ (record { lit = l; level = level; reason = Some k } ∷ []) → Holds known level t3 × (unset_all t3 known < unset_all t known)
  settle_implied k l t3 e is =
      let (i, c, q, g, here, f) = found_at t t2 known (Implied k l) e a in
      let entry : Entry = record { lit = l; level = level; reason = Some k } in
      let w : Why known t entry (Some k) = (c, at_zero known k i c q g, here.in_it, f) in (
        subst (Holds known level) (sym is) (holds_push known level t entry h refl here.free here.free_not w),
        subst (λ w. unset_all w known < unset_all t known) (sym is) (unset_all_lt t entry known c (In-get known i c g) here.in_it here.free),
      )

  pub settle_free : (l : Lit) (t3 : List Entry) → Free l ≡ scan_of t2 known 0 None → t3 ≡ t ++ (record { lit = l; level = level + 1; reason = None } ∷ []) → Holds known (level + 1) t3 × (unset_all t3 known < unset_all t known)
  settle_free l t3 e is =
      let f = found_at t t2 known (Free l) e a in
      let entry : Entry = record { lit = l; level = level + 1; reason = None } in
      let w : (c : List Lit) × In known c × Here t c l = elim f.1 [ inl p ↦ (let q : None ≡ Some l = p in absurd cc) | inr q ↦ q ] in (
        subst (Holds known (level + 1)) (sym is) (holds_decide known level t entry h (calm_closed t known (quiet_trail known t h.ok) f.0) refl refl w.2.free w.2.free_not),
        subst (λ w. unset_all w known < unset_all t known) (sym is) (unset_all_lt t entry known w.0 w.1 w.2.in_it w.2.free),
      )

module _ (vars : List ℕ) (known : List (List Lit)) (t : List Entry) (covers : CoversAll vars known) where
  pub implied_here : (k : ℕ) (l : Lit) → Implied k l ≡ scan_of t known 0 None → (listed vars l.var ≡ true) × (Set t l → ⊥) × (Set t (negated l) → ⊥)
  implied_here k l e =
      let (i, c, q, g, here, f) = found_at t t known (Implied k l) e refl in
      (covers_has vars c l (covers_in vars known c covers (In-get known i c g)) here.in_it, here.free, here.free_not)

  pub free_here : (l : Lit) → Free l ≡ scan_of t known 0 None → (listed vars l.var ≡ true) × (Set t l → ⊥) × (Set t (negated l) → ⊥)
  free_here l e =
      let f = found_at t t known (Free l) e refl in
      let w : (c : List Lit) × In known c × Here t c l = elim f.1 [ inl p ↦ (let q : None ≡ Some l = p in absurd cc) | inr q ↦ q ] in
      (covers_has vars w.0 l (covers_in vars known w.0 covers w.1) w.2.in_it, w.2.free, w.2.free_not)
