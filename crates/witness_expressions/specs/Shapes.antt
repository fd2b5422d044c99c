-- The terms that can be written, and what is said of their texts.
use Rattle.std.specs.Prelude.{ℕ, ◌<◌, ◌≡◌, List, [], Option, Some, None, slice_get, codes, ◌++◌, ◌∷◌, ◌⊎◌}
use Rattle.bv_term.specs.declared.term.TermId.{TermId}
use Rattle.bv_term.specs.declared.term.Term.{Term}
use Rattle.bv_term.specs.declared.term.Term.TheVariants.{Constant, And, Or, Not, Bit}
use Rattle.witness_expressions.specs.declared.look.Shape.{Shape}
use Rattle.witness_expressions.specs.declared.look.Shape.TheVariants as shape
use Rattle.witness_expressions.specs.Expressions.{Row, row_at, rows_of, both_text, not_text, bit_text, truth_text, operand_name}

abbrev pub shape_of : Option Term → Shape
shape_of (Some (Constant w v)) = shape.Truth v
shape_of (Some (And i j)) = shape.Both i j
shape_of (Some (Or i j)) = shape.Either i j
shape_of (Some (Not i)) = shape.Complement i
shape_of (Some (Bit k i)) = shape.BitOf k i
shape_of _ = shape.Other

-- the text of a term of a shape, by those of its operands, whose numbers are lower
abbrev pub Says : (ℕ → Option (List ℕ)) → List Term → List Row → TermId → Shape → Type 0
Says names terms rows x (shape.Truth v) = (row_at rows x).text ≡ truth_text v
Says names terms rows x (shape.Both i j) =
    (i.0 < x.0) × (j.0 < x.0) × ((row_at rows x).text ≡ both_text (codes " && ") (row_at rows i).text (row_at rows j).text)
    × ((row_at rows x).parts ≡ (row_at rows i).parts ++ (row_at rows j).parts)
Says names terms rows x (shape.Either i j) =
    (i.0 < x.0) × (j.0 < x.0) × ((row_at rows x).text ≡ both_text (codes " || ") (row_at rows i).text (row_at rows j).text)
Says names terms rows x (shape.Complement i) = (i.0 < x.0) × ((row_at rows x).text ≡ not_text (row_at rows i).text)
Says names terms rows x (shape.BitOf k i) = (row_at rows x).text ≡ bit_text k (operand_name names (slice_get terms i.0))
Says names terms rows x shape.Other = (row_at rows x).text ≡ []

abbrev pub conjuncts_of : Shape → Option (TermId × TermId)
conjuncts_of (shape.Both i j) = Some (i, j)
conjuncts_of _ = None

-- what is split, and what is a part or none
abbrev pub Splits : List Row → TermId → Option (TermId × TermId) → Type 0
Splits rows x (Some p) = (p.0.0 < x.0) × (p.1.0 < x.0) × ((row_at rows x).parts ≡ (row_at rows p.0).parts ++ (row_at rows p.1).parts)
Splits rows x None = ((row_at rows x).parts ≡ []) ⊎ ((row_at rows x).parts ≡ (row_at rows x).text ∷ [])
