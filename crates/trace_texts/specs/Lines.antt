-- The lines in which a run is told.
use Rattle.std.specs.Prelude.{ℕ, Bool, true, false, List, [], ◌∷◌, ◌++◌, codes, Option, None, Some, ℤ}
use Rattle.std.specs.Fmt.{decimal, signed_decimal}
use Rattle.lv_base.specs.declared.place.Place.{Place}

-- where it happened, in front of what happened
abbrev pub front : Option Place → List ℕ
front (Some place) = decimal place.line ++ (codes ":" ++ (decimal place.column ++ codes ": "))
front None = codes "?: "

-- a scalar, or an element of an array
abbrev pub element_text : List ℕ → Option ℕ → List ℕ
element_text name None = name
element_text name (Some index) = name ++ (codes "[" ++ (decimal index ++ codes "]"))

-- a call drew a value
abbrev pub drawn : List ℕ → List ℕ → ℤ → List ℕ
drawn at name value = at ++ (name ++ (codes "() gives " ++ (signed_decimal value ++ 10 ∷ [])))

-- a local object without an initial value: its kind and its name
abbrev pub valueless_text : List ℕ → List ℕ → List ℕ
valueless_text kind object = kind ++ (codes " " ++ (object ++ codes " has no value"))

-- what has no value drew one
abbrev pub valued : List ℕ → List ℕ → ℤ → List ℕ
valued at valueless value = at ++ (valueless ++ (codes ": " ++ (signed_decimal value ++ 10 ∷ [])))

abbrev pub assigned : List ℕ → List ℕ → ℤ → List ℕ
assigned at object value = at ++ (object ++ (codes " = " ++ (signed_decimal value ++ 10 ∷ [])))

abbrev pub bound : List ℕ → List ℕ → ℤ → List ℕ
bound at name value = at ++ (codes "parameter " ++ (name ++ (codes " = " ++ (signed_decimal value ++ 10 ∷ []))))

abbrev pub truth_text : Bool → List ℕ
truth_text true = codes " is true"
truth_text false = codes " is false"

abbrev pub decided : List ℕ → List ℕ → Bool → List ℕ
decided at condition holds = at ++ (condition ++ (truth_text holds ++ 10 ∷ []))

-- a loop without a condition goes on
abbrev pub undecided : List ℕ → List ℕ
undecided at = at ++ (codes "the loop has no condition" ++ 10 ∷ [])

-- the value of a `switch` is that of a case
abbrev pub met : List ℕ → ℤ → List ℕ
met at value = at ++ (codes "case " ++ (signed_decimal value ++ 10 ∷ []))

abbrev pub called : List ℕ → List ℕ → List ℕ
called at name = at ++ (codes "call of " ++ (name ++ 10 ∷ []))

abbrev pub returned : List ℕ → List ℕ → Option ℤ → List ℕ
returned at name (Some value) = at ++ (name ++ (codes " returns " ++ (signed_decimal value ++ 10 ∷ [])))
returned at name None = at ++ (name ++ (codes " returns" ++ 10 ∷ []))

abbrev pub left_out : ℕ → List ℕ
left_out count = decimal count ++ (codes " events before these are left out" ++ 10 ∷ [])
