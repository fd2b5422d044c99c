-- All clauses, one after another.
use Rattle.std.proofs.Common.{◌≡◌, ℕ, ◌+◌, ◌∙◌, ap, Bool, true, false, ◌&&◌, List, [], ◌∷◌, drop, Some, slice_get, zero, suc, add-one}
use Rattle.prop.specs.declared.Lit.{Lit}
use Rattle.prop.specs.Logic.{clause_holds, all_hold}

pub drop_get : (cs : List (List Lit)) (k : ℕ) (c : List Lit) → slice_get cs k ≡ Some c → drop k cs ≡ c ∷ drop (suc k) cs
drop_get [] k c h = absurd cc
drop_get (d ∷ cs) zero c h = let e : d ≡ c = cc in ap (λ x. x ∷ cs) e
drop_get (d ∷ cs) (suc k) c h = drop_get cs k c h

pub drop_next : (cs : List (List Lit)) (k : ℕ) (c : List Lit) → slice_get cs k ≡ Some c → drop k cs ≡ c ∷ drop (k + 1) cs
drop_next cs k c h = rw add-one (drop_get cs k c h)

pub all_next : (v : ℕ → Bool) (cs : List (List Lit)) (k : ℕ) (c : List Lit) → slice_get cs k ≡ Some c → clause_holds v c ≡ true → all_hold v (drop k cs) ≡ all_hold v (drop (k + 1) cs)
all_next v cs k c h t = rw add-one (ap (all_hold v) (drop_get cs k c h) ∙ ap (λ b. b && all_hold v (drop (suc k) cs)) t)

pub all_stop : (v : ℕ → Bool) (cs : List (List Lit)) (k : ℕ) (c : List Lit) → slice_get cs k ≡ Some c → clause_holds v c ≡ false → all_hold v (drop k cs) ≡ false
all_stop v cs k c h t = ap (all_hold v) (drop_get cs k c h) ∙ ap (λ b. b && all_hold v (drop (suc k) cs)) t
