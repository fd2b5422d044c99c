-- The functions that mean something without a body, found one by one.
use Rattle.std.proofs.Common.{◌≡◌, ℕ, Bool, true, false, if◌then◌else◌, List, [], ◌∷◌, Option, Some, None, refl, ap, ◌∙◌}
use Rattle.std.specs.Prelude.{find, bytes_eq}
use Rattle.std.specs.Option.{option_map}
use Rattle.c_meaning.specs.Known as k
use Rattle.typed_values.specs.Made.{known_by}

abbrev in_list : List ℕ → List k.Named → Option k.Known
in_list name xs = option_map (λ (x : k.Named). x.means) (find (λ (x : k.Named). bytes_eq x.name name) xs)

-- the first of some names that is this one
abbrev first_in : List ℕ → List k.Named → Option k.Known
first_in name [] = None
first_in name (x ∷ xs) = if bytes_eq x.name name then Some x.means else first_in name xs

chosen : (b : Bool) (x : k.Named) (o : Option k.Named) → option_map (λ (y : k.Named). y.means) (if b then Some x else o) ≡ (if b then Some x.means else option_map (λ (y : k.Named). y.means) o)
chosen true x o = refl
chosen false x o = refl

first_is : (name : List ℕ) (xs : List k.Named) → in_list name xs ≡ first_in name xs
first_is name [] = refl
first_is name (x ∷ xs) = chosen (bytes_eq x.name name) x (find (λ (y : k.Named). bytes_eq y.name name) xs) ∙ ap (λ (o : Option k.Known). if bytes_eq x.name name then Some x.means else o) (first_is name xs)

pub known_is : (name : List ℕ) → k.known_of name ≡ known_by name
known_is name = first_is name k.KNOWN
