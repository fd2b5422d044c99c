-- Proofs of obligations gathered one after another, and terms of a table.
use Rattle.std.proofs.Common.{◌≡◌, ◌∙◌, ℕ, ◌+◌, ◌<◌, List, [], ◌∷◌, ◌++◌, Some, length, slice_get, take, get_or, ap, sym, subst, arith, refl, zero, suc, inl, inr, length-append}
use Rattle.std.proofs.lemmas.Bool.{cases_eq}
use Rattle.std.proofs.lemmas.List.{take_more}
use Rattle.bv_term.specs.declared.term.Term.{Term}
use Rattle.c_graph.specs.Shape.{Flow}
use Rattle.c_graph.specs.Runs.{Formulas}
use Rattle.resolution_log.specs.declared.Chain.{Chain}
use Rattle.clause_learning.specs.declared.QueryFail.{QueryFail}
use Rattle.clause_learning.specs.declared.QueryFail.TheVariants.{Over, OverLog, Memory}
use Rattle.obligations.specs.Questions.{count_of}
use Rattle.cert_build.specs.Proofs.{AreProofsTo, IsOneCause, IsProof, IsProveCause}

get-front : (xs : List (List Chain)) (x : List Chain) (k : ℕ) → k < length xs → slice_get (xs ++ x ∷ []) k ≡ slice_get xs k
get-front [] x k lt = absurd (omega (arith, lt))
get-front (y ∷ xs) x zero lt = refl
get-front (y ∷ xs) x (suc k) lt = get-front xs x k (omega (arith, lt))

get-last : (xs : List (List Chain)) (x : List Chain) → slice_get (xs ++ x ∷ []) (length xs) ≡ Some x
get-last [] x = refl
get-last (y ∷ xs) x = get-last xs x

get-within : (xs : List (List Chain)) (k : ℕ) (x : List Chain) → slice_get xs k ≡ Some x → k < length xs
get-within [] k x e = absurd cc
get-within (y ∷ xs) zero x e = omega arith
get-within (y ∷ xs) (suc k) x e = omega (arith, get-within xs k x e)

pub proofs_more : (g : Flow) (m : Formulas) (learn n : ℕ) (logs new : List (List Chain)) (log : List Chain) → AreProofsTo g m learn n logs
    → IsProof g m learn n log → new ≡ logs ++ log ∷ [] → AreProofsTo g m learn (n + 1) new
proofs_more g m learn n logs new log h r e =
    let P : List (List Chain) → Type 0 = λ xs. AreProofsTo g m learn (n + 1) xs in
    let l : length (logs ++ log ∷ []) ≡ length logs + 1 = length-append logs (log ∷ []) in
    subst P (sym e) (record {
      count = omega (arith, l, h.count);
      each = λ k x at. elim (cases_eq k n) [
        | inl q ↦
            let place : k ≡ length logs = omega (arith, q, h.count) in
            let s : Some log ≡ Some x = sym (get-last logs log) ∙ (ap (slice_get (logs ++ log ∷ [])) (sym place) ∙ at) in
            let same : log ≡ x = cc in
            subst (λ (y : List Chain). IsProof g m learn k y) same
            (subst (λ (i : ℕ). IsProof g m learn i log) (sym q) r)
        | inr ne ↦
            let within = get-within (logs ++ log ∷ []) k x at in
            let lt : k < length logs = omega (arith, within, l, ne, h.count) in
            h.each k x (sym (get-front logs log k lt) ∙ at)
      ];
    })

pub cause_of : (g : Flow) (m : Formulas) (learn n : ℕ) (logs : List (List Chain)) (e : QueryFail) → n < count_of g → AreProofsTo g m learn n logs
    → IsOneCause g m n learn e → IsProveCause g m learn e
cause_of g m learn n logs (Over size) lt h c = (n, record { there = lt; logs = logs; before = h }, c)
cause_of g m learn n logs (OverLog log) lt h c = (n, record { there = lt; logs = logs; before = h }, c)
cause_of g m learn n logs Memory lt h c = tt

got : (xs : List Term) (k : ℕ) (x : Term) → slice_get xs k ≡ Some x → get_or xs k x ≡ x
got [] k x e = absurd cc
got (y ∷ xs) zero x e = cc
got (y ∷ xs) (suc k) x e = got xs k x e

pub term_more : (ts old new : List Term) (k : ℕ) (t : Term) → k < length ts → slice_get ts k ≡ Some t → old ≡ take k ts → new ≡ old ++ t ∷ [] → new ≡ take (k + 1) ts
term_more ts old new k t lt at eo en =
    en ∙ (ap (λ (xs : List Term). xs ++ t ∷ []) eo ∙ (ap (λ (x : Term). take k ts ++ x ∷ []) (sym (got ts k t at)) ∙ sym (take_more ts k t lt)))
