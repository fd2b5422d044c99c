-- Words of a row, and the numbers and literals that they spell.
use Rattle.std.specs.Prelude.{ℕ, ◌≡◌, ◌++◌, ◌⊎◌, List, [], ◌∷◌, Bool, drop}
use Rattle.std.specs.Bool.{MatchBool}
use Rattle.std.specs.Str.{trim}
use Rattle.std.specs.Str.Parse.{digits_value, without_leading_plus}

-- The number that digits spell, behind a `+` or not.
abbrev pub spelled : List ℕ → ℕ
spelled word = digits_value 10 (without_leading_plus word)

-- A literal is spelled by the number of its variable, behind a `-` where it is the negation.
abbrev pub SpellsLiteral : List ℕ → Bool → ℕ → Type 0
SpellsLiteral word positive var = MatchBool positive (var ≡ spelled word) ((word ≡ 45 ∷ drop 1 word) × (var ≡ spelled (drop 1 word)))

-- What stands before and behind a sign of equality, without the blanks around them.
abbrev pub AreHalves : List ℕ → List ℕ → List ℕ → Type 0
AreHalves text first second = (left : List ℕ) × (right : List ℕ) × (text ≡ left ++ (61 ∷ right)) × (first ≡ trim left) × (second ≡ trim right)

-- The first word of a text, and what stands behind it, without the blanks around that.
abbrev pub AreFields : List ℕ → List ℕ → List ℕ → Type 0
AreFields text first second = ((behind : List ℕ) × (trim text ≡ first ++ (32 ∷ behind)) × (second ≡ trim behind)) ⊎ ((first ≡ trim text) × (second ≡ []))
