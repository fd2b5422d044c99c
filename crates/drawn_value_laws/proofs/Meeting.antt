-- All values are drawn: with one input more the program would not look at it.
use Rattle.std.proofs.Common.{◌≡◌, ◌∙◌, ℕ, zero, suc, ◌<◌, List, [], ◌∷◌, ◌++◌, length, take, pos, refl, ap, subst, arith, slice_get}
use Rattle.c_run.specs.Run.{Error}
use Rattle.c_typed.specs.Run.{run}
use Rattle.c_typed.specs.Laws.{DrawnInputs}
use Rattle.drawn_value_laws.specs.Drawn.{ErrorsMeet}

get-front : {X : Type 0} (xs ys : List X) (i : ℕ) → i < length xs → slice_get xs i ≡ slice_get (xs ++ ys) i
get-front [] ys i lt = absurd (omega (arith, lt))
get-front (x ∷ xs) ys zero lt = refl
get-front (x ∷ xs) ys (suc i) lt = get-front xs ys i (omega (arith, lt))

abbrev tail : {X : Type 0} → List X → List X
tail [] = []
tail (x ∷ xs) = xs

-- so many of a longer list are as many as they are
taken-all : {X : Type 0} (n : ℕ) (xs : List X) (y : X) → take n (xs ++ y ∷ []) ≡ xs → n ≡ length xs
taken-all zero [] y e = refl
taken-all (suc n) [] y e = absurd (cc)
taken-all zero (x ∷ xs) y e = absurd (cc)
taken-all (suc n) (x ∷ xs) y e = ap suc (taken-all n xs y (ap tail e))

pub errors_meet : DrawnInputs → ErrorsMeet
errors_meet drawn_inputs p g path values turns kind at back fails enough =
    let more = values ++ pos 0 ∷ [] in
    let ends = back path more values (pos 0 ∷ []) turns kind at fails enough refl in
    let all : ends.0 ≡ length values = taken-all ends.0 values (pos 0) ends.2 in
    let same : run turns p values ≡ Error kind at ends.0 =
    drawn_inputs p turns more values kind at ends.0 ends.1 (λ i lt. get-front values (pos 0 ∷ []) i (subst (λ (n : ℕ). i < n) all lt)) in
    same ∙ ap (λ (n : ℕ). Error kind at n) all
