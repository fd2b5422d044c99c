-- Logs that grow at their end, and logs cut to some of their chains.
use Rattle.std.proofs.Common.{◌≡◌, ℕ, ◌+◌, Bool, true, false, not, ◌&&◌, ◌||◌, cond, List, [], ◌∷◌, ◌++◌, Option, Some, None, slice_get, nat_eq, zero, suc, ◌⊎◌, inl, inr, refl, sym, ap, ◌∙◌, subst, arith, append_assoc, append-nil, ap₂}
use Rattle.std.proofs.lemmas.Bool.{and_parts, and_from, or_cases, or_left, or_right, both_ways, cases_Bool}
use Rattle.prop.specs.declared.Lit.{Lit}
use Rattle.prop.specs.Logic.{negated, positive_of, lit_value, clause_holds, all_hold}
use Rattle.prop.specs.Steps.{same_sign, same, negative_of, has, Has, without, In, crosses, resolved, one_way, resolve}
use Rattle.resolution_log.specs.declared.Chain.{Chain}
use Rattle.resolution_log.specs.Chains.{then_with, chain_from, chain_result, results_of, IsRefutation, absent, pivots_differ}
use Rattle.prop.proofs.Sets.{lit_cases, negated_twice, negated_ne, negated_swap, lit_value-negated, Has-left, Has-right, Has-append, Has-without, Has-kept, Has-head, In-left, In-right, In-append, In-get, not-not}
use Rattle.resolution_log.specs.Propagation.{Derived, Derived.start, Derived.unit, Quiet, Closed, Others, Empowering, IsNew}
use Rattle.resolution_log.specs.Logs.{New, New.none, New.more, Lean}
use Rattle.resolution_log.specs.Cones.{anew}
use Rattle.resolution_log.proofs.Results.{then_parts, step_parts, results_parts}
use Rattle.resolution_log.proofs.Propagates.{IsNew-fewer}

-- a log that grows at its end
results-one : (known : List (List Lit)) (ch : Chain) (rs : List (List Lit)) (r : List Lit) → rs ≡ [] → chain_result (known ++ rs) ch ≡ Some r → results_of known (ch ∷ []) ≡ Some (rs ++ (r ∷ []))
results-one known ch rs r e g =
    let g1 : chain_result (known ++ []) ch ≡ Some r = subst (λ x. chain_result (known ++ x) ch ≡ Some r) e g in
    let g2 : chain_result known ch ≡ Some r = subst (λ x. chain_result x ch ≡ Some r) (append-nil known) g1 in
    subst (λ x. results_of known (ch ∷ []) ≡ Some (x ++ (r ∷ []))) (sym e) (rw g2)

pub results-push : (known : List (List Lit)) (log : List Chain) (ch : Chain) (rs : List (List Lit)) (r : List Lit) → results_of known log ≡ Some rs → chain_result (known ++ rs) ch ≡ Some r → results_of known (log ++ (ch ∷ [])) ≡ Some (rs ++ (r ∷ []))
results-push known [] ch rs r h g = let e : rs ≡ [] = cc in results-one known ch rs r e g
results-push known (c0 ∷ log) ch rs r h g =
    let (r0, ts, gr, gt, e) = results_parts known c0 log rs h in
    let g1 : chain_result (known ++ (r0 ∷ ts)) ch ≡ Some r = subst (λ x. chain_result (known ++ x) ch ≡ Some r) (sym e) g in
    let ih = results-push (known ++ (r0 ∷ [])) log ch ts r gt (subst (λ x. chain_result x ch ≡ Some r) (sym (append_assoc known (r0 ∷ []) ts)) g1) in
    subst (λ x. results_of known (c0 ∷ (log ++ (ch ∷ []))) ≡ Some (x ++ (r ∷ []))) e (rw (gr, ih))

pub New-push : {known rs : List (List Lit)} {log : List Chain} (ch : Chain) (r : List Lit) → New known log rs → chain_result (known ++ rs) ch ≡ Some r → pivots_differ ch.pairs ≡ true → IsNew (known ++ rs) r → New known (log ++ (ch ∷ [])) (rs ++ (r ∷ []))
New-push {known} ch r none h d n = let e : known ++ [] ≡ known = append-nil known in more (rw e at h) d (rw e at n) none
New-push {known} ch r (more {rs = rs} {r = r0} h0 d0 n0 w) h d n =
    let e : (known ++ (r0 ∷ [])) ++ rs ≡ known ++ (r0 ∷ rs) = append_assoc known (r0 ∷ []) rs in
    more h0 d0 n0 (New-push ch r w (rw (← e) at h) d (rw (← e) at n))

pub New-valid : {known rs : List (List Lit)} {log : List Chain} → New known log rs → results_of known log ≡ Some rs
New-valid none = refl
New-valid (more h d n w) = rw (h, New-valid w)

-- fewer clauses
abbrev pub Within : List (List Lit) → List (List Lit) → Type 0
Within few all = (c : List Lit) → In few c → In all c

pub Within-skip : (few all : List (List Lit)) (r : List Lit) → Within few all → Within few (all ++ (r ∷ []))
Within-skip few all r w c h = In-left all (r ∷ []) c (w c h)

pub Within-keep : (few all : List (List Lit)) (r : List Lit) → Within few all → Within (few ++ (r ∷ [])) (all ++ (r ∷ []))
Within-keep few all r w c h = elim (In-append few (r ∷ []) c h) [ inl x ↦ In-left all (r ∷ []) c (w c x) | inr y ↦ In-right all (r ∷ []) c y ]

abbrev pub Agrees : List (List Lit) → List (List Lit) → (ℕ → ℕ) → List (ℕ × ℕ) → Type 0
Agrees all few f [] = Unit {0}
Agrees all few f (p ∷ ps) = (slice_get few (f p.1) ≡ slice_get all p.1) × Agrees all few f ps

pub chain_anew : (all few : List (List Lit)) (f : ℕ → ℕ) (c : List Lit) (ps : List (ℕ × ℕ)) → Agrees all few f ps → chain_from few c (anew f ps) ≡ chain_from all c ps
chain_anew all few f c [] h = refl
chain_anew all few f c (p ∷ ps) (e, h) = rw e (go (slice_get all p.1) (λ x. chain_anew all few f x ps h))
  where
    on : Option (List Lit) → ((x : List Lit) → chain_from few x (anew f ps) ≡ chain_from all x ps) → (d : List Lit) → then_with (resolve p.0 c d) (λ e. chain_from few e (anew f ps)) ≡ then_with (resolve p.0 c d) (λ e. chain_from all e ps)
    on o ih d = step_go (resolve p.0 c d)
      where
        step_go : (r : Option (List Lit)) → then_with r (λ e. chain_from few e (anew f ps)) ≡ then_with r (λ e. chain_from all e ps)
        step_go None = refl
        step_go (Some x) = ih x

    go : (o : Option (List Lit)) → ((x : List Lit) → chain_from few x (anew f ps) ≡ chain_from all x ps) → then_with o (λ d. then_with (resolve p.0 c d) (λ e. chain_from few e (anew f ps))) ≡ then_with o (λ d. then_with (resolve p.0 c d) (λ e. chain_from all e ps))
    go None ih = refl
    go (Some d) ih = on (Some d) ih d

pub pivots_anew : (f : ℕ → ℕ) (ps : List (ℕ × ℕ)) → pivots_differ (anew f ps) ≡ pivots_differ ps
pivots_anew f [] = refl
pivots_anew f (p ∷ ps) = ap₂ (λ x y. x && y) (absent_anew f p.0 ps) (pivots_anew f ps)
  where
    absent_anew : (f : ℕ → ℕ) (v : ℕ) (ps : List (ℕ × ℕ)) → absent v (anew f ps) ≡ absent v ps
    absent_anew f v [] = refl
    absent_anew f v (q ∷ ps) = ap (λ x. not (nat_eq q.0 v) && x) (absent_anew f v ps)
