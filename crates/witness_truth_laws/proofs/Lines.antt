-- What is said of a term is said by what is said of its operands, in one table.
use Rattle.std.proofs.Common.{◌≡◌, ℕ, zero, suc, ◌+◌, ◌<◌, ◌≤◌, List, [], ◌∷◌, ◌++◌, length, refl, sym, ap, ◌∙◌, arith, length-append}
use Rattle.std.specs.Prelude.{Option, Some, None, slice_get, false, ◌&&◌, codes}
use Rattle.std.proofs.lemmas.Option.{slice_get_past}
use Rattle.bv_term.specs.declared.term.TermId.{TermId}
use Rattle.bv_term.specs.declared.term.Term.{Term}
use Rattle.bv_term.specs.declared.term.Term.TheVariants.{Constant, Cell, Element, Add, Subtract, Multiply, Divide, Remainder, And, Or, Xor, Not, ShiftLeft, ShiftRight, ShiftSigned, Equal, Less, LessSigned, Select, ZeroExtend, SignExtend, Truncate, Bit}
use Rattle.bv_term.specs.WellFormed.{Table, IsTable}
use Rattle.term_laws.specs.Operands.{OnOperands}
use Rattle.term_laws.specs.Laws.{IsMade}
use Rattle.term_laws.proofs.Made.{made, onto}
use Rattle.witness_expressions.specs.Expressions.{Row, row, row_or_none, row_at, row_in, rows_after, rows_of, and_row, leaf, both_text, not_text}

abbrev or_row : Row → Row → Row
or_row x y = leaf (x.written && y.written) (both_text (codes " || ") x.text y.text)

-- the first elements stay the first
get_front : {A : Type 0} (xs ys : List A) (i : ℕ) → i < length xs → slice_get (xs ++ ys) i ≡ slice_get xs i
get_front [] ys i h = absurd (omega arith)
get_front (x ∷ xs) ys zero h = refl
get_front (x ∷ xs) ys (suc i) h = get_front xs ys i (omega arith)

get_seam : {A : Type 0} (xs : List A) (y : A) → slice_get (xs ++ y ∷ []) (length xs) ≡ Some y
get_seam [] y = refl
get_seam (x ∷ xs) y = get_seam xs y

rows_grow : (names : ℕ → Option (List ℕ)) (all : List Term) (rows : List Row) (ts : List Term) → length (rows_after names all rows ts) ≡ length rows + length ts
rows_grow names all rows [] = omega arith
rows_grow names all rows (t ∷ ts) = rows_grow names all (rows ++ row_in names all rows t ∷ []) ts ∙ omega (arith, length-append rows (row_in names all rows t ∷ []))

rows_keep : (names : ℕ → Option (List ℕ)) (all : List Term) (rows : List Row) (ts : List Term) (i : ℕ) → i < length rows → slice_get (rows_after names all rows ts) i ≡ slice_get rows i
rows_keep names all rows [] i h = refl
rows_keep names all rows (t ∷ ts) i h =
    rows_keep names all (rows ++ row_in names all rows t ∷ []) ts i (omega (arith, length-append rows (row_in names all rows t ∷ []))) ∙ get_front rows (row_in names all rows t ∷ []) i h

-- rows that say the same of a term's operands say the same of the term
row_same : (names : ℕ → Option (List ℕ)) (all : List Term) (rows more : List Row) (t : Term) → OnOperands (λ i. row_at rows i ≡ row_at more i) t → row_in names all rows t ≡ row_in names all more t
row_same names all rows more (Constant w v) h = refl
row_same names all rows more (And i j) h = ap (λ (x : Row). and_row x (row_at rows j)) h.0 ∙ ap (λ (y : Row). and_row (row_at more i) y) h.1
row_same names all rows more (Or i j) h =
    ap (λ (x : Row). or_row x (row_at rows j)) h.0 ∙ ap (λ (y : Row). or_row (row_at more i) y) h.1
row_same names all rows more (Not i) h = ap (λ (x : Row). leaf x.written (not_text x.text)) h
row_same names all rows more (Bit k i) h = refl
row_same names all rows more _ h = refl

row_made : (names : ℕ → Option (List ℕ)) (all : List Term) (rows : List Row) (ts : List Term) (k : ℕ) (t : Term) → slice_get ts k ≡ Some t → OnOperands (λ i. i.0 < length rows + k) t
    → slice_get (rows_after names all rows ts) (length rows + k) ≡ Some (row_in names all (rows_after names all rows ts) t)
row_made names all rows [] k t e h = cc
row_made names all rows (u ∷ ts) zero t e h =
    let more = rows ++ row_in names all rows u ∷ [] in
    let same : u ≡ t = cc in
    let here : length rows + 0 ≡ length rows = omega arith in
    let low : length rows < length more = omega (arith, length-append rows (row_in names all rows u ∷ [])) in
    let alike = row_same names all rows (rows_after names all more ts) t
    (onto (λ i. i.0 < length rows + 0) (λ i. row_at rows i ≡ row_at (rows_after names all more ts) i) t
    (λ i g. let near : i.0 < length rows = omega arith in ap row_or_none (sym (rows_keep names all more ts i.0 (omega arith) ∙ get_front rows (row_in names all rows u ∷ []) i.0 near))) h) in
    rw here (rows_keep names all more ts (length rows) low ∙ get_seam rows (row_in names all rows u) ∙ ap (λ (v : Term). Some (row_in names all rows v)) same ∙ ap (λ (r : Row). Some r) alike)
row_made names all rows (u ∷ ts) (suc k) t e h =
    let more = rows ++ row_in names all rows u ∷ [] in
    let next : length more + k ≡ length rows + suc k = omega (arith, length-append rows (row_in names all rows u ∷ [])) in
    rw (← next) (row_made names all more ts k t e (rw next h))

-- each term of a table is as its operands are
pub row_found : (names : ℕ → Option (List ℕ)) (table : Table) (i : TermId) (t : Term) → IsTable table → slice_get table.terms i.0 ≡ Some t
    → row_at (rows_of names table.terms) i ≡ row_in names table.terms (rows_of names table.terms) t
unfolding rows_of
row_found names table i t is e =
    let none : length {A = Row} [] + i.0 ≡ i.0 = omega arith in
    ap row_or_none (rw none at (row_made names table.terms [] table.terms i.0 t e (rw none (made table [] i t is e).before)))

pub operands_lower : (table : Table) (i : TermId) (t : Term) → IsTable table → slice_get table.terms i.0 ≡ Some t → OnOperands (λ j. j.0 < i.0) t
operands_lower table i t is e = (made table [] i t is e).before

none_past : (ts : List Term) (i : ℕ) → slice_get ts i ≡ None → length ts ≤ i
none_past [] i e = omega arith
none_past (t ∷ ts) zero e = cc
none_past (t ∷ ts) (suc i) e = omega (arith, none_past ts i e)

-- nothing is said of what is no term
pub row_none : (names : ℕ → Option (List ℕ)) (table : Table) (i : TermId) → slice_get table.terms i.0 ≡ None → row_at (rows_of names table.terms) i ≡ row false [] []
unfolding rows_of
row_none names table i e =
    ap row_or_none (slice_get_past (rows_after names table.terms [] table.terms) i.0 (omega (arith, rows_grow names table.terms [] table.terms, none_past table.terms i.0 e)))
