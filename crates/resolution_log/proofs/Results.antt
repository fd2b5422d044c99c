-- Results of chains and logs, and what they imply.
use Rattle.std.proofs.Common.{◌≡◌, ℕ, ◌+◌, Bool, true, false, not, ◌&&◌, ◌||◌, cond, List, [], ◌∷◌, ◌++◌, Option, Some, None, slice_get, nat_eq, zero, suc, ◌⊎◌, inl, inr, refl, sym, ap, ◌∙◌, subst, arith, append_assoc, append-nil, ap₂, ◌<◌, length}
use Rattle.std.proofs.lemmas.Bool.{and_parts, and_from, or_cases, or_left, or_right, both_ways, cases_Bool}
use Rattle.prop.specs.declared.Lit.{Lit}
use Rattle.prop.specs.Logic.{negated, positive_of, lit_value, clause_holds, all_hold}
use Rattle.prop.specs.Steps.{same_sign, same, negative_of, has, Has, without, In, crosses, resolved, one_way, resolve}
use Rattle.resolution_log.specs.declared.Chain.{Chain}
use Rattle.resolution_log.specs.Chains.{then_with, chain_from, chain_result, results_of, IsRefutation, absent, pivots_differ}
use Rattle.prop.proofs.Sound.{holds_step}

pub then_parts : {A B : Type 0} (o : Option A) (f : A → Option B) (b : B) → then_with o f ≡ Some b → (a : A) × (o ≡ Some a) × (f a ≡ Some b)
then_parts None f b h = absurd cc
then_parts (Some a) f b h = (a, refl, h)

pub step_parts : (known : List (List Lit)) (p : ℕ × ℕ) (ps : List (ℕ × ℕ)) (c r : List Lit) → chain_from known c (p ∷ ps) ≡ Some r → (d : List Lit) × (e : List Lit) × (slice_get known p.1 ≡ Some d) × (resolve p.0 c d ≡ Some e) × (chain_from known e ps ≡ Some r)
step_parts known p ps c r h =
    let (d, gd, h1) = then_parts (slice_get known p.1) (λ d. then_with (resolve p.0 c d) (λ e. chain_from known e ps)) r h in
    let (e, ge, h2) = then_parts (resolve p.0 c d) (λ e. chain_from known e ps) r h1 in
    (d, e, gd, ge, h2)

pub results_parts : (known : List (List Lit)) (ch : Chain) (chs : List Chain) (rs : List (List Lit)) → results_of known (ch ∷ chs) ≡ Some rs → (r : List Lit) × (ts : List (List Lit)) × (chain_result known ch ≡ Some r) × (results_of (known ++ (r ∷ [])) chs ≡ Some ts) × (r ∷ ts ≡ rs)
results_parts known ch chs rs h =
    let (r, gr, h1) = then_parts (chain_result known ch) (λ r. then_with (results_of (known ++ (r ∷ [])) chs) (λ ts. Some (r ∷ ts))) rs h in
    let (ts, gt, h2) = then_parts (results_of (known ++ (r ∷ [])) chs) (λ ts. Some (r ∷ ts)) rs h1 in
    (r, ts, gr, gt, cc)

-- what the clauses imply
pub holds_get : (v : ℕ → Bool) (known : List (List Lit)) (k : ℕ) (c : List Lit) → all_hold v known ≡ true → slice_get known k ≡ Some c → clause_holds v c ≡ true
holds_get v [] k c h g = absurd cc
holds_get v (d ∷ known) zero c h g = let p = and_parts (clause_holds v d) (all_hold v known) h in let e : d ≡ c = cc in subst (λ x. clause_holds v x ≡ true) e p.0
holds_get v (d ∷ known) (suc k) c h g = holds_get v known k c (and_parts (clause_holds v d) (all_hold v known) h).1 g

holds_chain : (v : ℕ → Bool) (known : List (List Lit)) (ps : List (ℕ × ℕ)) (c r : List Lit) → all_hold v known ≡ true → clause_holds v c ≡ true → chain_from known c ps ≡ Some r → clause_holds v r ≡ true
holds_chain v known [] c r all m h = let e : c ≡ r = cc in subst (λ x. clause_holds v x ≡ true) e m
holds_chain v known (p ∷ ps) c r all m h =
    let (d, e, gd, ge, h2) = step_parts known p ps c r h in
    holds_chain v known ps e r all (holds_step v p.0 c d e ge m (holds_get v known p.1 d all gd)) h2

pub holds_result : (v : ℕ → Bool) (known : List (List Lit)) (ch : Chain) (r : List Lit) → all_hold v known ≡ true → chain_result known ch ≡ Some r → clause_holds v r ≡ true
holds_result v known ch r all h =
    let (c, gc, h1) = then_parts (slice_get known ch.first) (λ c. chain_from known c ch.pairs) r h in
    holds_chain v known ch.pairs c r all (holds_get v known ch.first c all gc) h1

holds_append : (v : ℕ → Bool) (cs ds : List (List Lit)) → all_hold v cs ≡ true → all_hold v ds ≡ true → all_hold v (cs ++ ds) ≡ true
holds_append v [] ds h k = k
holds_append v (c ∷ cs) ds h k = let p = and_parts (clause_holds v c) (all_hold v cs) h in and_from (clause_holds v c) (all_hold v (cs ++ ds)) p.0 (holds_append v cs ds p.1 k)

holds_right : (v : ℕ → Bool) (cs ds : List (List Lit)) → all_hold v (cs ++ ds) ≡ true → all_hold v ds ≡ true
holds_right v [] ds h = h
holds_right v (c ∷ cs) ds h = holds_right v cs ds (and_parts (clause_holds v c) (all_hold v (cs ++ ds)) h).1

-- every result of a valid log is implied by the clauses
pub holds_results : (v : ℕ → Bool) (known : List (List Lit)) (log : List Chain) (rs : List (List Lit)) → all_hold v known ≡ true → results_of known log ≡ Some rs → all_hold v rs ≡ true
holds_results v known [] rs all h = let e : [] ≡ rs = cc in subst (λ x. all_hold v x ≡ true) e refl
holds_results v known (ch ∷ chs) rs all h =
    let (r, ts, gr, gt, e) = results_parts known ch chs rs h in
    let m = holds_result v known ch r all gr in
    let ih = holds_results v (known ++ (r ∷ [])) chs ts (holds_append v known (r ∷ []) all (and_from (clause_holds v r) true m refl)) gt in
    subst (λ x. all_hold v x ≡ true) e (and_from (clause_holds v r) (all_hold v ts) m ih)

pub refutation_sound : (clauses : List (List Lit)) (log : List Chain) → IsRefutation clauses log → (v : ℕ → Bool) → all_hold v clauses ≡ true → ⊥
refutation_sound clauses log (front, h) v all = both_ways (all_hold v ([] ∷ [])) refl (holds_right v front ([] ∷ []) (holds_results v clauses log (front ++ ([] ∷ [])) all h))

pub get-more : (xs ys : List (List Lit)) (k : ℕ) (c : List Lit) → slice_get xs k ≡ Some c → slice_get (xs ++ ys) k ≡ Some c
get-more [] ys k c h = absurd cc
get-more (x ∷ xs) ys zero c h = h
get-more (x ∷ xs) ys (suc k) c h = get-more xs ys k c h

pub get-below : (xs : List (List Lit)) (k : ℕ) (c : List Lit) → slice_get xs k ≡ Some c → k < length xs
get-below [] k c h = absurd cc
get-below (x ∷ xs) zero c h = omega arith
get-below (x ∷ xs) (suc k) c h = let q : k < length xs = get-below xs k c h in omega arith
