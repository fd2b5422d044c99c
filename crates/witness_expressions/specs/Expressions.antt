-- Terms as expressions of C, and a formula as the conjunction of those of its parts that can be written.
use Rattle.std.specs.Prelude.{ℕ, ◌≤◌, List, [], ◌∷◌, ◌++◌, Bool, true, false, ◌&&◌, ◌==◌, nat_le, if◌then◌else◌, Option, Some, None, length, slice_get, codes}
use Rattle.std.specs.Fmt.{decimal}
use Rattle.bv_term.specs.declared.term.TermId.{TermId}
use Rattle.bv_term.specs.declared.term.Term.{Term}
use Rattle.bv_term.specs.declared.term.Term.TheVariants.{Constant, Cell, And, Or, Not, Bit}

-- what is said of a term: whether it can be written, its text, and the texts of those of its parts that are written
pub record Row : Type 0 where
  pub written : Bool
  pub text : List ℕ
  pub parts : List (List ℕ)

abbrev pub row : Bool → List ℕ → List (List ℕ) → Row
row written text parts = record { written = written; text = text; parts = parts }

abbrev pub row_or_none : Option Row → Row
row_or_none None = row false [] []
row_or_none (Some r) = r

abbrev pub row_at : List Row → TermId → Row
row_at rows i = row_or_none (slice_get rows i.0)

-- two expressions with a mark between
abbrev pub both_text : List ℕ → List ℕ → List ℕ → List ℕ
both_text mark x y = codes "(" ++ (x ++ (mark ++ (y ++ codes ")")))

abbrev pub not_text : List ℕ → List ℕ
not_text x = codes "(!" ++ (x ++ codes ")")

-- a bit of what has this name
abbrev pub bit_text : ℕ → Option (List ℕ) → List ℕ
bit_text k None = []
bit_text k (Some name) = codes "((" ++ (name ++ (codes " >> " ++ (decimal k ++ codes ") & 1)")))

abbrev pub is_named : Option (List ℕ) → Bool
is_named None = false
is_named (Some name) = true

abbrev pub truth_text : ℕ → List ℕ
truth_text value = if value == 1 then codes "1" else codes "0"

-- the name of the cell that a term is, if it is one that has a name
abbrev pub operand_name : (ℕ → Option (List ℕ)) → Option Term → Option (List ℕ)
operand_name names (Some (Cell c)) = names c
operand_name names _ = None

-- a part has at most 4,096 bytes
abbrev pub leaf : Bool → List ℕ → Row
leaf written text = row written text (if written && nat_le (length text) 4096 then text ∷ [] else [])

-- a formula is split at its topmost `&`, left before right
abbrev pub and_row : Row → Row → Row
and_row x y = row (x.written && y.written) (both_text (codes " && ") x.text y.text) (x.parts ++ y.parts)

-- what is said of a term, by what is said of the terms before it: it can be written where it is a constant of width 1, a bit
-- of a cell that has a name, or made by `&`, `o` and `~` of such
abbrev pub row_in : (ℕ → Option (List ℕ)) → List Term → List Row → Term → Row
row_in names terms rows (Constant w v) = leaf (w == 1) (truth_text v)
row_in names terms rows (And i j) = and_row (row_at rows i) (row_at rows j)
row_in names terms rows (Or i j) =
    leaf ((row_at rows i).written && (row_at rows j).written) (both_text (codes " || ") (row_at rows i).text (row_at rows j).text)
row_in names terms rows (Not i) = leaf (row_at rows i).written (not_text (row_at rows i).text)
row_in names terms rows (Bit k i) =
    leaf (is_named (operand_name names (slice_get terms i.0))) (bit_text k (operand_name names (slice_get terms i.0)))
row_in names terms rows _ = leaf false []

-- the rows of earlier terms, and then of these
abbrev pub rows_after : (ℕ → Option (List ℕ)) → List Term → List Row → List Term → List Row
rows_after names terms rows [] = rows
rows_after names terms rows (t ∷ ts) = rows_after names terms (rows ++ row_in names terms rows t ∷ []) ts

unfoldable pub rows_of : (ℕ → Option (List ℕ)) → List Term → List Row
rows_of names terms = rows_after names terms [] terms

-- parts with ` && ` between, behind those that stand already
abbrev pub and_also : List ℕ → List ℕ → List ℕ
and_also [] part = part
and_also (byte ∷ bytes) part = (byte ∷ bytes) ++ (codes " && " ++ part)

abbrev pub conjoined : List ℕ → List (List ℕ) → List ℕ
conjoined text [] = text
conjoined text (part ∷ parts) = conjoined (and_also text part) parts

abbrev pub or_one : List ℕ → List ℕ
or_one [] = codes "1"
or_one (byte ∷ bytes) = byte ∷ bytes

-- the written parts of a formula, or 1 without any
abbrev pub expression_of : (ℕ → Option (List ℕ)) → List Term → TermId → List ℕ
expression_of names terms formula = or_one (conjoined [] (row_at (rows_of names terms) formula).parts)
