-- Lists of numbers of edges, each of which is one of two.
use Rattle.std.proofs.Common.{◌≡◌, ℕ, ◌+◌, ◌==◌, ◌&&◌, true, List, [], ◌∷◌, Some, None, inl, inr, ◌⊎◌, refl, ap, sym, ◌∙◌, add-one, subst, zero, suc, drop, slice_get, length, ◌≤◌, arith}
use Rattle.std.proofs.lemmas.Bool.{and_parts, or_cases, eqb-true}
use Rattle.c_graph.specs.declared.graph.EdgeId.{EdgeId}
use Rattle.block_steps.specs.Made.{are_among, is_either}

either-of : (n a b : ℕ) → is_either n a b ≡ true → (n ≡ a) ⊎ (n ≡ b)
either-of n a b e = elim (or_cases (n == a) (n == b) e) [ inl x ↦ inl (eqb-true n a x) | inr x ↦ inr (eqb-true n b x) ]

pub among-all : (ns : List EdgeId) (a b : ℕ) → are_among ns a b ≡ true → (j : ℕ) (id : EdgeId) → slice_get ns j ≡ Some id → (id.0 ≡ a) ⊎ (id.0 ≡ b)
among-all [] a b e j id get = absurd (let z : None ≡ Some id = get in cc)
among-all (n ∷ ns) a b e zero id get =
    let z : n ≡ id = cc in
    subst (λ (x : EdgeId). (x.0 ≡ a) ⊎ (x.0 ≡ b)) z (either-of n.0 a b (and_parts (is_either n.0 a b) (are_among ns a b) e).0)
among-all (n ∷ ns) a b e (suc j) id get = among-all ns a b (and_parts (is_either n.0 a b) (are_among ns a b) e).1 j id get

drop-step : (ns : List EdgeId) (k : ℕ) (x : EdgeId) → slice_get ns k ≡ Some x → drop k ns ≡ x ∷ drop (suc k) ns
drop-step [] k x get = absurd (let z : None ≡ Some x = get in cc)
drop-step (n ∷ ns) zero x get = let z : n ≡ x = cc in ap (λ (h : EdgeId). h ∷ ns) z
drop-step (n ∷ ns) (suc k) x get = drop-step ns k x get

-- from a number on, by whether that of this place is one of the two
pub among-step : (ns : List EdgeId) (k a b : ℕ) (x : EdgeId) → slice_get ns k ≡ Some x
    → are_among (drop k ns) a b ≡ (is_either x.0 a b && are_among (drop (k + 1) ns) a b)
among-step ns k a b x get =
    ap (λ (xs : List EdgeId). are_among xs a b) (drop-step ns k x get)
    ∙ ap (λ (j : ℕ). is_either x.0 a b && are_among (drop j ns) a b) (sym (add-one k))

pub among-none : (ns : List EdgeId) (k a b : ℕ) → length ns ≤ k → are_among (drop k ns) a b ≡ true
among-none [] zero a b le = refl
among-none [] (suc k) a b le = refl
among-none (n ∷ ns) zero a b le = absurd (omega (arith, le))
among-none (n ∷ ns) (suc k) a b le = among-none ns k a b (omega (arith, le))
