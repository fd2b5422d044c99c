-- The verdict is exact.
use Rattle.std.proofs.Common.{◌≡◌, ℕ, zero, suc, ◌+◌, Bool, true, false, List, [], ◌∷◌, ◌++◌, Option, Some, None, refl, sym, ap, ◌∙◌, subst, arith, length, nat_eq, append_assoc, append-nil, take, slice_get}
use Rattle.prop.specs.declared.Lit.{Lit}
use Rattle.resolution_log.specs.declared.Chain.{Chain}
use Rattle.prop.specs.Logic.{positive_of}
use Rattle.resolution_log.specs.declared.LogFail.TheVariants.{BadStep, NoEmpty}
use Rattle.resolution_log.proofs.Results.{results_parts}
use Rattle.resolution_log.specs.Chains.{then_with, chain_result, results_of, IsRefutation}
use Rattle.resolution_log.specs.Verdict.{IsCause, Verdict, Refutes, Bad, Lacks, is_nil, at_end, verdict_at, verdict_of}

-- the results so far and the last of them
Refutes-at : (last : Bool) → at_end last ≡ Refutes → last ≡ true
Refutes-at true h = refl
Refutes-at false h = cc

nil : (r : List Lit) → is_nil r ≡ true → r ≡ []
nil [] h = refl
nil (l ∷ r) h = absurd (grind arith)

-- from Refutes: the last result is empty
pub fine_results : (known : List (List Lit)) (n : ℕ) (before : List Lit) (log : List Chain) → verdict_of known n (is_nil before) log ≡ Refutes → (front : List (List Lit)) × (rs : List (List Lit)) × (results_of known log ≡ Some rs) × ((before ∷ rs) ≡ front ++ ([] ∷ []))
fine_results known n before [] h = ([], [], refl, ap (λ x. x ∷ []) (nil before (Refutes-at _ h)))
fine_results known n before (ch ∷ chs) h = go (chain_result known ch) refl h (λ r e. fine_results (known ++ (r ∷ [])) (n + 1) r chs e)
  where
    go : (o : Option (List Lit)) → chain_result known ch ≡ o → verdict_at n o (λ r. verdict_of (known ++ (r ∷ [])) (n + 1) (is_nil r) chs) ≡ Refutes → ((r : List Lit) → verdict_of (known ++ (r ∷ [])) (n + 1) (is_nil r) chs ≡ Refutes → (front : List (List Lit)) × (rs : List (List Lit)) × (results_of (known ++ (r ∷ [])) chs ≡ Some rs) × ((r ∷ rs) ≡ front ++ ([] ∷ []))) → (front : List (List Lit)) × (rs : List (List Lit)) × (then_with (chain_result known ch) (λ r. then_with (results_of (known ++ (r ∷ [])) chs) (λ rs. Some (r ∷ rs))) ≡ Some rs) × ((before ∷ rs) ≡ front ++ ([] ∷ []))
    go None e g ih = absurd cc
    go (Some r) e g ih = let (front, rs, a, b) = ih r g in (before ∷ front, r ∷ rs, rw (e, a), ap (λ x. before ∷ x) b)

snoc_nil : (front : List (List Lit)) (x : List Lit) → (x ∷ []) ≡ front ++ ([] ∷ []) → x ≡ []
snoc_nil [] x h = cc
snoc_nil (y ∷ []) x h = cc
snoc_nil (y ∷ z ∷ front) x h = cc

tail_of : (front : List (List Lit)) (x y : List Lit) (rs : List (List Lit)) → (x ∷ y ∷ rs) ≡ front ++ ([] ∷ []) → (rest : List (List Lit)) × ((y ∷ rs) ≡ rest ++ ([] ∷ []))
tail_of [] x y rs h = cc
tail_of (z ∷ front) x y rs h = (front, cc)

-- the way back: valid with an empty last result is Refutes
pub fine_from : (known : List (List Lit)) (n : ℕ) (before : List Lit) (log : List Chain) (rs front : List (List Lit)) → results_of known log ≡ Some rs → (before ∷ rs) ≡ front ++ ([] ∷ []) → verdict_of known n (is_nil before) log ≡ Refutes
fine_from known n before [] rs front h e =
    let k : [] ≡ rs = cc in
    let q : before ≡ [] = snoc_nil front before (subst (λ w. (before ∷ w) ≡ front ++ ([] ∷ [])) (sym k) e) in
    rw q refl
fine_from known n before (ch ∷ chs) rs front h e =
    let (r, ts, gr, gt, k) = results_parts known ch chs rs h in
    let (rest, q) = tail_of front before r ts (subst (λ w. (before ∷ w) ≡ front ++ ([] ∷ [])) (sym k) e) in
    rw gr (fine_from (known ++ (r ∷ [])) (n + 1) r chs ts rest gt q)

-- the chains before a bad one are valid
pub bad_cause : (known : List (List Lit)) (n : ℕ) (last : Bool) (log : List Chain) (k : ℕ) → verdict_of known n last log ≡ Bad k → (j : ℕ) × (k ≡ n + j) × (rs : List (List Lit)) × (ch : Chain) × (results_of known (take j log) ≡ Some rs) × (slice_get log j ≡ Some ch) × (chain_result (known ++ rs) ch ≡ None)
bad_cause known n true [] k h = absurd cc
bad_cause known n false [] k h = absurd cc
bad_cause known n last (ch ∷ chs) k h = go (chain_result known ch) refl h (λ r e. bad_cause (known ++ (r ∷ [])) (n + 1) (is_nil r) chs k e)
  where
    go : (o : Option (List Lit)) → chain_result known ch ≡ o → verdict_at n o (λ r. verdict_of (known ++ (r ∷ [])) (n + 1) (is_nil r) chs) ≡ Bad k
        → ((r : List Lit) → verdict_of (known ++ (r ∷ [])) (n + 1) (is_nil r) chs ≡ Bad k → (j : ℕ) × (k ≡ (n + 1) + j) × (rs : List (List Lit)) × (d : Chain) × (results_of (known ++ (r ∷ [])) (take j chs) ≡ Some rs) × (slice_get chs j ≡ Some d) × (chain_result ((known ++ (r ∷ [])) ++ rs) d ≡ None))
        → (j : ℕ) × (k ≡ n + j) × (rs : List (List Lit)) × (d : Chain) × (results_of known (take j (ch ∷ chs)) ≡ Some rs) × (slice_get (ch ∷ chs) j ≡ Some d) × (chain_result (known ++ rs) d ≡ None)
    go None e g ih = let q : n ≡ k = cc in (0, omega (arith, q), [], ch, refl, refl, subst (λ w. chain_result w ch ≡ None) (sym (append-nil known)) e)
    go (Some r) e g ih =
        let (j, kj, rs, d, v, at, none) = ih r g in
        (suc j, omega (arith, kj), r ∷ rs, d, rw (e, v) refl, at, subst (λ w. chain_result w d ≡ None) (append_assoc known (r ∷ []) rs) none)

pub lacks_valid : (known : List (List Lit)) (n : ℕ) (last : Bool) (log : List Chain) → verdict_of known n last log ≡ Lacks → (rs : List (List Lit)) × (results_of known log ≡ Some rs)
lacks_valid known n last [] h = ([], refl)
lacks_valid known n last (ch ∷ chs) h = go (chain_result known ch) refl h (λ r e. lacks_valid (known ++ (r ∷ [])) (n + 1) (is_nil r) chs e)
  where
    go : (o : Option (List Lit)) → chain_result known ch ≡ o → verdict_at n o (λ r. verdict_of (known ++ (r ∷ [])) (n + 1) (is_nil r) chs) ≡ Lacks → ((r : List Lit) → verdict_of (known ++ (r ∷ [])) (n + 1) (is_nil r) chs ≡ Lacks → (rs : List (List Lit)) × (results_of (known ++ (r ∷ [])) chs ≡ Some rs)) → (rs : List (List Lit)) × (results_of known (ch ∷ chs) ≡ Some rs)
    go None e g ih = absurd cc
    go (Some r) e g ih = let (rs, v) = ih r g in (r ∷ rs, rw (e, v) refl)

-- a result before the first that is not empty
one_literal : List Lit
one_literal = positive_of 0 ∷ []

after_one : (front rs : List (List Lit)) → (one_literal ∷ rs) ≡ front ++ ([] ∷ []) → (rest : List (List Lit)) × (rs ≡ rest ++ ([] ∷ []))
unfolding one_literal
after_one [] rs h = cc
after_one (z ∷ front) rs h = (front, cc)

pub refutes : (clauses : List (List Lit)) (log : List Chain) → verdict_of clauses 0 false log ≡ Refutes → IsRefutation clauses log
unfolding one_literal
refutes clauses log h =
    let (front, rs, v, e) = fine_results clauses 0 one_literal log h in
    let (rest, q) = after_one front rs e in
    (rest, subst (λ w. results_of clauses log ≡ Some w) q v)

pub refutes_back : (clauses : List (List Lit)) (log : List Chain) → IsRefutation clauses log → verdict_of clauses 0 false log ≡ Refutes
unfolding one_literal
refutes_back clauses log (front, v) = fine_from clauses 0 one_literal log (front ++ ([] ∷ [])) (one_literal ∷ front) v refl

pub cause_bad : (clauses : List (List Lit)) (log : List Chain) (k : ℕ) → verdict_of clauses 0 false log ≡ Bad k → IsCause clauses log (BadStep k)
cause_bad clauses log k h =
    let (j, kj, rs, ch, v, at, none) = bad_cause clauses 0 false log k h in
    let e : j ≡ k = omega (arith, kj) in
    (rs, ch, subst (λ w. results_of clauses (take w log) ≡ Some rs) e v, subst (λ w. slice_get log w ≡ Some ch) e at, none)

pub cause_lacks : (clauses : List (List Lit)) (log : List Chain) → verdict_of clauses 0 false log ≡ Lacks → IsCause clauses log NoEmpty
cause_lacks clauses log h = (lacks_valid clauses 0 false log h, λ r. let q = refutes_back clauses log r in cc)
