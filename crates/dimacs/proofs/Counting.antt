-- Counts of pairs.
use Rattle.std.proofs.Common.{◌≡◌, ◌∙◌, ◌+◌, ◌<◌, ◌≤◌, ℕ, zero, suc, List, [], ◌∷◌, length, take, get_or, min, Some, slice_get, refl, sym, ap, arith}
use Rattle.std.proofs.lemmas.Option.{slice_get_within, slice_get_read}
use Rattle.resolution_log.specs.declared.Chain.{Chain}
use Rattle.clause_learning.specs.Solve.{pairs_of}

none_there : (i : ℕ) → i < 0 → ⊥
none_there i h = omega (arith, h)

pub pairs_more : (cs : List Chain) (i : ℕ) (c : Chain) → slice_get cs i ≡ Some c → pairs_of (take (suc i) cs) ≡ pairs_of (take i cs) + length c.pairs
pairs_more [] i c h = absurd (none_there i (slice_get_within [] i c h))
pairs_more (d ∷ cs) zero c h = let same : d ≡ c = cc in let e = ap (λ (x : Chain). length x.pairs) same in omega (arith, e)
pairs_more (d ∷ cs) (suc i) c h = let ih = pairs_more cs i c h in omega (arith, ih)

pub counted_more : (cs : List Chain) (i : ℕ) (c : Chain) (pairs total : ℕ) → i < length cs → c ≡ get_or cs i c → pairs ≡ min (pairs_of (take i cs)) 18446744073709551615
    → total ≡ min (pairs + length c.pairs) 18446744073709551615 → total ≡ min (pairs_of (take (i + 1) cs)) 18446744073709551615
counted_more cs i c pairs total within is p t =
    let more = pairs_more cs i c (slice_get_read cs (length cs) i c refl within is) in
    let one : i + 1 ≡ suc i = omega arith in
    let same = ap (λ (n : ℕ). pairs_of (take n cs)) one in
    omega (arith, p, t, more, same)
