-- A journal has few units.
use Rattle.std.proofs.Common.{◌≡◌, ◌∙◌, ℕ, ◌+◌, ◌*◌, ◌<◌, ◌≤◌, List, [], ◌∷◌, length, ap, arith}
use Rattle.std.proofs.Math.Nat.{add-mul}
use Rattle.c_graph.specs.Shape.{Flow}
use Rattle.cover_engine.specs.declared.unit.UnitDone.{UnitDone}
use Rattle.cover_engine.specs.declared.unit.UnitDone.TheVariants.{Expand, Refine, CoverYes, CoverNo}
use Rattle.cover_engine.specs.Unwindings.{Unwound}
use Rattle.cover_engine.specs.Units.{after, start}
use Rattle.journal_length_laws.specs.Laws.{JournalsAreShort, most_units}
use Rattle.journal_length_laws.proofs.Counting.{keys}
use Rattle.journal_length_laws.proofs.Moving.{legal-start, moves, moves-few}
use Rattle.journal_length_laws.proofs.Settling.{covers, covers-few}

-- each unit moves a vertex or settles a pair
parts : (g : Flow) (p : ℕ) (u : Unwound) (xs : List UnitDone) → length xs ≡ length (keys g moves u xs) + length (keys g (covers p) u xs)
parts g p u [] = omega arith
parts g p u (Expand v ∷ xs) = let r = parts g p (after g u (Expand v)) xs in omega (arith, r)
parts g p u (Refine v fs ∷ xs) = let r = parts g p (after g u (Refine v fs)) xs in omega (arith, r)
parts g p u (CoverYes v w ∷ xs) = let r = parts g p (after g u (CoverYes v w)) xs in omega (arith, r)
parts g p u (CoverNo v w store ∷ xs) = let r = parts g p (after g u (CoverNo v w store)) xs in omega (arith, r)

sum : (p m n : ℕ) → 0 < p → m ≤ p → n ≤ (p + 1) * p * p → m + n < most_units p
sum p m n pos a b =
    let one : (p + 1) * p ≡ p * p + 1 * p = add-mul p 1 p in
    let two : (p + 1) * p * p ≡ p * p * p + 1 * p * p = ap (λ k. k * p) one ∙ add-mul (p * p) (1 * p) p in
    let three : 1 * p ≡ p = omega arith in
    let four : 1 * p * p ≡ p * p = ap (λ k. k * p) three in
    omega (arith, pos, a, b, two, four)

pub journals_are_short : JournalsAreShort
journals_are_short g u paths flow all l =
    let s = legal-start g u l in
    let m = moves-few g paths flow all (start g u.terms) u.journal s l.units in
    let c = covers-few g paths flow all (start g u.terms) u.journal s l.units in
    let e = parts g (length paths) (start g u.terms) u.journal in
    let (k, lt, at) = all [] tt in
    let t = sum (length paths) (length (keys g moves (start g u.terms) u.journal)) (length (keys g (covers (length paths)) (start g u.terms) u.journal)) (omega (arith, lt)) m c in
    omega (arith, e, t)
