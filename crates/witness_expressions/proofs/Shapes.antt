-- The row of a term is that of its shape.
use Rattle.std.proofs.Common.{◌≡◌, ℕ, ◌<◌, List, [], ◌∷◌, Bool, true, false, ◌⊎◌, inl, inr, refl, ap, ◌∙◌}
use Rattle.std.specs.Prelude.{Option, Some, None, slice_get, if◌then◌else◌, ◌&&◌, nat_le, length}
use Rattle.bv_term.specs.declared.term.TermId.{TermId}
use Rattle.bv_term.specs.declared.term.Term.{Term}
use Rattle.bv_term.specs.declared.term.Term.TheVariants.{Constant, And, Or, Not, Bit}
use Rattle.bv_term.specs.WellFormed.{Table, IsTable}
use Rattle.witness_expressions.specs.Expressions.{Row, row_at, rows_of}
use Rattle.witness_expressions.specs.Shapes.{Says, Splits, shape_of, conjuncts_of}
use Rattle.witness_expressions.proofs.Rows.{row_found, row_none, operands_lower}

says_of : (names : ℕ → Option (List ℕ)) (table : Table) (x : TermId) (found : Option Term) → IsTable table → slice_get table.terms x.0 ≡ found
    → Says names table.terms (rows_of names table.terms) x (shape_of found)
says_of names table x None is e = ap (λ (r : Row). r.text) (row_none names table x e)
says_of names table x (Some (Constant w v)) is e = ap (λ (r : Row). r.text) (row_found names table x (Constant w v) is e)
says_of names table x (Some (And i j)) is e =
    let low = operands_lower table x (And i j) is e in
    let found = row_found names table x (And i j) is e in
    (low.0, low.1, ap (λ (r : Row). r.text) found, ap (λ (r : Row). r.parts) found)
says_of names table x (Some (Or i j)) is e =
    let low = operands_lower table x (Or i j) is e in
    (low.0, low.1, ap (λ (r : Row). r.text) (row_found names table x (Or i j) is e))
says_of names table x (Some (Not i)) is e =
    (operands_lower table x (Not i) is e, ap (λ (r : Row). r.text) (row_found names table x (Not i) is e))
says_of names table x (Some (Bit k i)) is e = ap (λ (r : Row). r.text) (row_found names table x (Bit k i) is e)
says_of names table x (Some t) is e = ap (λ (r : Row). r.text) (row_found names table x t is e)

pub says : (names : ℕ → Option (List ℕ)) (table : Table) (x : TermId) → IsTable table → Says names table.terms (rows_of names table.terms) x (shape_of (slice_get table.terms x.0))
says names table x is = says_of names table x (slice_get table.terms x.0) is refl

one_or_none : (b : Bool) (text : List ℕ) → ((if b then text ∷ [] else []) ≡ []) ⊎ ((if b then text ∷ [] else []) ≡ text ∷ [])
one_or_none true text = inr refl
one_or_none false text = inl refl

part_or_none : (r s : Row) (b : Bool) → r ≡ s → s.parts ≡ (if b then s.text ∷ [] else []) → (r.parts ≡ []) ⊎ (r.parts ≡ r.text ∷ [])
part_or_none r s b e f = rw (e, f) (one_or_none b s.text)

splits_of : (names : ℕ → Option (List ℕ)) (table : Table) (x : TermId) (found : Option Term) → IsTable table → slice_get table.terms x.0 ≡ found
    → Splits (rows_of names table.terms) x (conjuncts_of (shape_of found))
splits_of names table x None is e = inl (ap (λ (r : Row). r.parts) (row_none names table x e))
splits_of names table x (Some (And i j)) is e =
    let s = says_of names table x (Some (And i j)) is e in (s.0, s.1, s.3)
splits_of names table x (Some (Constant w v)) is e = part_or_none _ _ _ (row_found names table x (Constant w v) is e) refl
splits_of names table x (Some (Or i j)) is e = part_or_none _ _ _ (row_found names table x (Or i j) is e) refl
splits_of names table x (Some (Not i)) is e = part_or_none _ _ _ (row_found names table x (Not i) is e) refl
splits_of names table x (Some (Bit k i)) is e = part_or_none _ _ _ (row_found names table x (Bit k i) is e) refl
splits_of names table x (Some t) is e = inl (ap (λ (r : Row). r.parts) (row_found names table x t is e))

pub splits : (names : ℕ → Option (List ℕ)) (table : Table) (x : TermId) → IsTable table → Splits (rows_of names table.terms) x (conjuncts_of (shape_of (slice_get table.terms x.0)))
splits names table x is = splits_of names table x (slice_get table.terms x.0) is refl
