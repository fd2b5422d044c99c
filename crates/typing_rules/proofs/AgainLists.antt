-- Offsets in a list, one more at a time.
use Rattle.std.proofs.Common.{◌≡◌, ℕ, ◌<◌, ◌+◌, Bool, true, false, ◌||◌, cond, nat_eq, List, [], ◌∷◌, ◌++◌, length, take, get_or, refl, ap, ◌∙◌, sym}
use Rattle.std.proofs.lemmas.List.{take_more}
use Rattle.typing_rules.specs.Summed.{is_again}

again_push : (xs : List ℕ) (a k : ℕ) → is_again (xs ++ a ∷ []) k ≡ cond (nat_eq a k) true (is_again xs k)
again_push [] a k = last (nat_eq a k)
  where
    last : (b : Bool) → (b || false) ≡ cond b true false
    last true = refl
    last false = refl
again_push (x ∷ xs) a k = ap (λ z. nat_eq x k || z) (again_push xs a k) ∙ turn (nat_eq x k) (nat_eq a k) (is_again xs k)
  where
    turn : (b c d : Bool) → (b || cond c true d) ≡ cond c true (b || d)
    turn true true d = refl
    turn true false d = refl
    turn false c d = refl

pub again_more : (xs : List ℕ) (i f : ℕ) → i < length xs → (k : ℕ) → is_again (take (i + 1) xs) k ≡ cond (nat_eq (get_or xs i f) k) true (is_again (take i xs) k)
again_more xs i f h k = ap (λ ys. is_again ys k) (take_more xs i f h) ∙ again_push (take i xs) (get_or xs i f) k
