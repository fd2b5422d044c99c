-- A log with a chain that is not valid is no refutation.
use Rattle.std.proofs.Common.{◌≡◌, ℕ, zero, suc, List, [], ◌∷◌, ◌++◌, take, refl, sym, subst, ap, ◌∙◌, slice_get, Option, Some, None, append_assoc}
use Rattle.std.proofs.lemmas.List.{append-nil}
use Rattle.std.proofs.lemmas.Option.{none-some, same_Some}
use Rattle.prop.specs.declared.Lit.{Lit}
use Rattle.resolution_log.specs.declared.Chain.{Chain}
use Rattle.resolution_log.specs.Chains.{then_with, chain_result, results_of}

then_some : {A B : Type 0} (o : Option A) (f : A → Option B) (b : B) → then_with o f ≡ Some b → (a : A) × (o ≡ Some a) × (f a ≡ Some b)
then_some None f b e = absurd (none-some b e)
then_some (Some a) f b e = (a, refl, e)

pub bad_ends : (log : List Chain) (known : List (List Lit)) (k : ℕ) (rs all : List (List Lit)) (ch : Chain) → results_of known (take k log) ≡ Some rs → slice_get log k ≡ Some ch → chain_result (known ++ rs) ch ≡ None → results_of known log ≡ Some all → ⊥
bad_ends [] known k rs all ch e at bad whole = none-some ch at
bad_ends (d ∷ log) known zero rs all ch e at bad whole =
    let none : [] ≡ rs = same_Some [] rs e in
    let here : known ++ rs ≡ known = ap (λ (x : List (List Lit)). known ++ x) (sym none) ∙ append-nil known in
    let is : d ≡ ch = same_Some d ch at in
    let u = then_some (chain_result known d) (λ r. then_with (results_of (known ++ (r ∷ [])) log) (λ xs. Some (r ∷ xs))) all whole in
    let n : None ≡ Some u.0 = sym bad ∙ ap (λ (x : List (List Lit)). chain_result x ch) here ∙ ap (λ (x : Chain). chain_result known x) (sym is) ∙ u.1 in
    none-some u.0 n
bad_ends (d ∷ log) known (suc k) rs all ch e at bad whole =
    let p = then_some (chain_result known d) (λ r. then_with (results_of (known ++ (r ∷ [])) (take k log)) (λ xs. Some (r ∷ xs))) rs e in
    let q = then_some (results_of (known ++ (p.0 ∷ [])) (take k log)) (λ xs. Some (p.0 ∷ xs)) rs p.2 in
    let u = then_some (chain_result known d) (λ r. then_with (results_of (known ++ (r ∷ [])) log) (λ xs. Some (r ∷ xs))) all whole in
    let v = then_some (results_of (known ++ (u.0 ∷ [])) log) (λ xs. Some (u.0 ∷ xs)) all u.2 in
    let same : p.0 ≡ u.0 = same_Some p.0 u.0 (sym p.1 ∙ u.1) in
    let more : p.0 ∷ q.0 ≡ rs = same_Some (p.0 ∷ q.0) rs q.2 in
    let step : (known ++ (p.0 ∷ [])) ++ q.0 ≡ known ++ rs = append_assoc known (p.0 ∷ []) q.0 ∙ ap (λ (x : List (List Lit)). known ++ x) more in
    let rest : results_of (known ++ (p.0 ∷ [])) log ≡ Some v.0 = subst (λ (x : List Lit). results_of (known ++ (x ∷ [])) log ≡ Some v.0) (sym same) v.1 in
    bad_ends log (known ++ (p.0 ∷ [])) k q.0 v.0 ch q.1 at (ap (λ (x : List (List Lit)). chain_result x ch) step ∙ bad) rest
