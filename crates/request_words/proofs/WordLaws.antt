-- Where one digit is none, the number is none.
use Rattle.std.proofs.Common.{◌≡◌, ℕ, List, [], ◌∷◌, None, Some, refl, ap, ◌∙◌}
use Rattle.request_words.specs.Values.{digit_added, number_behind}

pub none_behind : (most : ℕ) (bytes : List ℕ) → number_behind most None bytes ≡ None
none_behind most [] = refl
none_behind most (b ∷ bytes) = refl

pub number_stops : (most n b : ℕ) (bytes rest : List ℕ) → bytes ≡ b ∷ rest → digit_added most n b ≡ None → number_behind most (Some n) bytes ≡ None
number_stops most n b bytes rest e none = ap (number_behind most (Some n)) e ∙ ap (λ o. number_behind most o rest) none ∙ none_behind most rest
