-- A log cut to the chains that are needed, with clauses counted anew.
use Rattle.std.proofs.Common.{◌≡◌, ℕ, ◌+◌, ◌<◌, ◌≤◌, Bool, true, false, cond, List, [], ◌∷◌, ◌++◌, Option, Some, None, slice_get, zero, suc, ◌⊎◌, inl, inr, refl, sym, ap, ◌∙◌, subst, arith, length, length-append, add-one, append_assoc, append-nil}
use Rattle.std.proofs.lemmas.Bool.{both_ways, cases_Bool}
use Rattle.prop.specs.declared.Lit.{Lit}
use Rattle.resolution_log.specs.declared.Chain.{Chain}
use Rattle.resolution_log.proofs.Results.{results_parts, step_parts, then_parts, get-more, get-below}
use Rattle.resolution_log.proofs.Pushes.{Within, Within-skip, Within-keep, Agrees, chain_anew, pivots_anew}
use Rattle.resolution_log.proofs.Propagates.{IsNew-fewer}
use Rattle.resolution_log.specs.Logs.{New, New.none, New.more, Lean}
use Rattle.resolution_log.specs.Cones.{anew, rank, Used, Anew, Kept, Kept.kept_none, Kept.kept_not, Kept.kept_one}
use Rattle.resolution_log.specs.Chains.{chain_from, chain_result, results_of, pivots_differ}

-- the needed clauses are at their new numbers
abbrev pub Placed : (ℕ → Bool) → List (List Lit) → List (List Lit) → Type 0
Placed need all few = (j : ℕ) (c : List Lit) → need j ≡ true → slice_get all j ≡ Some c → slice_get few (rank need j) ≡ Some c

last_place : (xs : List (List Lit)) (r c : List Lit) (j : ℕ) → slice_get (xs ++ (r ∷ [])) j ≡ Some c → (slice_get xs j ≡ Some c) ⊎ ((j ≡ length xs) × (c ≡ r))
last_place [] r c zero h = inr (refl, cc)
last_place [] r c (suc j) h = absurd cc
last_place (x ∷ xs) r c zero h = inl h
last_place (x ∷ xs) r c (suc j) h = elim (last_place xs r c j h) [ inl a ↦ inl a | inr b ↦ inr (ap suc b.0, b.1) ]

at_end : (xs : List (List Lit)) (r : List Lit) (k : ℕ) → k ≡ length xs → slice_get (xs ++ (r ∷ [])) k ≡ Some r
at_end [] r zero e = refl
at_end [] r (suc k) e = absurd (omega arith)
at_end (x ∷ xs) r zero e = absurd (omega arith)
at_end (x ∷ xs) r (suc k) e = let q : k ≡ length xs = omega arith in at_end xs r k q

placed_not : (need : ℕ → Bool) (all few : List (List Lit)) (r : List Lit) → Placed need all few → need (length all) ≡ false → Placed need (all ++ (r ∷ [])) few
placed_not need all few r p no' j c n g = elim (last_place all r c j g) [ inl a ↦ p j c n a | inr b ↦ absurd (both_ways (need (length all)) no' (subst (λ w. need w ≡ true) b.0 n)) ]

placed_one : (need : ℕ → Bool) (all few : List (List Lit)) (r : List Lit) → Placed need all few → length few ≡ rank need (length all) → Placed need (all ++ (r ∷ [])) (few ++ (r ∷ []))
placed_one need all few r p e j c n g = elim (last_place all r c j g) [
  | inl a ↦ get-more few (r ∷ []) (rank need j) c (p j c n a)
  | inr b ↦ subst (λ w. slice_get (few ++ (r ∷ [])) (rank need j) ≡ Some w) (sym b.1) (at_end few r (rank need j) (ap (rank need) b.0 ∙ sym e))
]

agrees : (need : ℕ → Bool) (all few : List (List Lit)) (c r : List Lit) (ps : List (ℕ × ℕ)) → Placed need all few → Used need ps → chain_from all c ps ≡ Some r → Agrees all few (rank need) ps
agrees need all few c r [] p u h = tt
agrees need all few c r (q ∷ ps) p u h =
    let (d, e, gd, ge, h2) = step_parts all q ps c r h in
    (p q.1 d u.0 gd ∙ sym gd, agrees need all few e r ps p u.1 h2)

anew_result : (need : ℕ → Bool) (all few : List (List Lit)) (ch ch' : Chain) (r : List Lit) → Placed need all few → Anew need ch ch' → chain_result all ch ≡ Some r → chain_result few ch' ≡ Some r
anew_result need all few ch ch' r p a h =
    let (c, gc, h1) = then_parts (slice_get all ch.first) (λ c. chain_from all c ch.pairs) r h in
    let g : slice_get few ch'.first ≡ Some c = subst (λ w. slice_get few w ≡ Some c) (sym a.first) (p ch.first c a.first_used gc) in
    let k : chain_from few c ch'.pairs ≡ Some r = subst (λ w. chain_from few c w ≡ Some r) (sym a.pairs) (chain_anew all few (rank need) c ch.pairs (agrees need all few c r ch.pairs p a.used h1) ∙ h1) in
    rw g k

longer : (xs : List (List Lit)) (r : List Lit) → length (xs ++ (r ∷ [])) ≡ suc (length xs)
longer xs r = omega (arith, length-append xs (r ∷ []))

-- the cut of a new log is new, and the needed clauses are at their new numbers
pub cut_new : {need : ℕ → Bool} {n : ℕ} {all few rs : List (List Lit)} {log kept : List Chain} → Kept need n log kept → New all log rs → n ≡ length all → length few ≡ rank need n → Placed need all few → Within few all → (ts : List (List Lit)) × New few kept ts × Placed need (all ++ rs) (few ++ ts)
cut_new {need} {n} {all} {few} kept_none none e l p w = ([], none, subst (λ x. Placed need x (few ++ [])) (sym (append-nil all)) (subst (λ x. Placed need all x) (sym (append-nil few)) p))
cut_new {need} {n} {all} {few} (kept_not no' rest) (more {rs = rs} {ch = ch} {r = r} h d x v) e l p w =
    let l2 : length few ≡ rank need (suc n) = rw no' (omega arith) in
    let (ts, a, b) = cut_new rest v (ap suc e ∙ sym (longer all r)) l2 (placed_not need all few r p (subst (λ z. need z ≡ false) e no')) (Within-skip few all r w) in
    (ts, a, subst (λ z. Placed need z (few ++ ts)) (append_assoc all (r ∷ []) rs) b)
cut_new {need} {n} {all} {few} (kept_one {ch' = ch'} yes' a rest) (more {rs = rs} {ch = ch} {r = r} h d x v) e l p w =
    let l2 : length (few ++ (r ∷ [])) ≡ rank need (suc n) = rw yes' (omega (arith, longer few r)) in
    let (ts, b, c) = cut_new rest v (ap suc e ∙ sym (longer all r)) l2 (placed_one need all few r p (subst (λ z. length few ≡ rank need z) e l)) (Within-keep few all r w) in
    (r ∷ ts, more (anew_result need all few ch ch' r p a h) (ap pivots_differ a.pairs ∙ pivots_anew (rank need) ch.pairs ∙ d) (IsNew-fewer few all r w x) b, subst (λ z. Placed need z (few ++ (r ∷ ts))) (append_assoc all (r ∷ []) rs) (subst (λ z. Placed need ((all ++ (r ∷ [])) ++ rs) z) (append_assoc few (r ∷ []) ts) c))

rank_all : (need : ℕ → Bool) (n : ℕ) → ((j : ℕ) → j < n → need j ≡ true) → (k : ℕ) → k ≤ n → rank need k ≡ k
rank_all need n f zero h = refl
rank_all need n f (suc k) h =
    let lt : k < n = omega arith in
    let le : k ≤ n = omega arith in
    let ih = rank_all need n f k le in
    rw (f k lt) (omega (arith, ih))

-- a lean refutation cut to the clauses that are needed, with its last chain, is lean
pub cut_lean : (need : ℕ → Bool) (clauses rs : List (List Lit)) (front kept : List Chain) (last last2 : Chain) → ((j : ℕ) → j < length clauses → need j ≡ true) → New clauses front rs → chain_result (clauses ++ rs) last ≡ Some [] → pivots_differ last.pairs ≡ true → Kept need (length clauses) front kept → Anew need last last2 → Lean clauses (kept ++ (last2 ∷ []))
cut_lean need clauses rs front kept last last2 given new h d k a =
    let same : length clauses ≡ rank need (length clauses) = sym (rank_all need (length clauses) given (length clauses) (omega arith)) in
    let placed : Placed need clauses clauses = λ j c n g. let lt = get-below clauses j c g in subst (λ w. slice_get clauses w ≡ Some c) (sym (rank_all need (length clauses) given j (omega (arith, lt)))) g in
    let (ts, b, p) = cut_new k new refl same placed (λ c h. h) in
    record {
      front = kept;
      last = last2;
      results = ts;
      parts = refl;
      new = b;
      empty = anew_result need (clauses ++ rs) (clauses ++ ts) last last2 [] p a h;
      differ = ap pivots_differ a.pairs ∙ pivots_anew (rank need) last.pairs ∙ d;
    }
