-- What a witness writes of a formula, as expressions of its own, and the text of each.
use Rattle.std.specs.Prelude.{ℕ, suc, zero, ◌≡◌, ◌⊎◌, List, [], ◌∷◌, ◌++◌, ◌==◌, nat_le, if◌then◌else◌, Option, Some, None, length, map, slice_get, codes}
use Rattle.std.specs.Fmt.{decimal}
use Rattle.bv_term.specs.declared.term.TermId.{TermId}
use Rattle.bv_term.specs.declared.term.Term.{Term}
use Rattle.bv_term.specs.declared.term.Term.TheVariants.{Constant, Cell, And, Or, Not, Bit}
use Rattle.c_graph.specs.declared.graph.Cell.{Cell as ACell}
use Rattle.c_graph.specs.declared.graph.Origin.{Origin}
use Rattle.c_graph.specs.declared.graph.Origin.TheVariants.{Element, Saved}
use Rattle.witness_expressions.specs.declared.names.Spelling.{Spelling}
use Rattle.witness_expressions.specs.declared.names.Spelling.TheVariants.{Hidden, Scalar, Array}
use Rattle.witness_expressions.specs.Expressions.{both_text, not_text, bit_text, truth_text, conjoined, or_one}

-- what a bit is read of, by the name of its object: a scalar, or an element of an array
pub data Place : Type 0 where
  pScalar : (name : List ℕ) → Place
  pElement : (name : List ℕ) (index : ℕ) → Place

-- a truth, a bit by its number, `&&`, `||` and `!`
pub data Expression : Type 0 where
  xTruth : (value : ℕ) → Expression
  xBit : (number : ℕ) (place : Place) → Expression
  xBoth : (left right : Expression) → Expression
  xEither : (left right : Expression) → Expression
  xNot : (operand : Expression) → Expression

-- ---- Texts

abbrev pub place_text : Place → List ℕ
place_text (pScalar name) = name
place_text (pElement name k) = name ++ (codes "[" ++ (decimal k ++ codes "]"))

abbrev pub text_of : Expression → List ℕ
text_of (xTruth v) = truth_text v
text_of (xBit k p) = bit_text k (Some (place_text p))
text_of (xBoth x y) = both_text (codes " && ") (text_of x) (text_of y)
text_of (xEither x y) = both_text (codes " || ") (text_of x) (text_of y)
text_of (xNot x) = not_text (text_of x)

-- expressions with ` && ` between, 1 without any
abbrev pub conjunction_text : List Expression → List ℕ
conjunction_text xs = or_one (conjoined [] (map text_of xs))

-- ---- Cells that have names

abbrev pub element_place : Option Spelling → ℕ → Option Place
element_place None k = None
element_place (Some Hidden) k = None
element_place (Some (Scalar name)) k = Some (pScalar name)
element_place (Some (Array name)) k = Some (pElement name k)

abbrev pub origin_place : List Spelling → Origin → Option Place
origin_place spellings (Element object k) = element_place (slice_get spellings object) k
origin_place spellings Saved = None

abbrev pub cell_place : List Spelling → Option ACell → Option Place
cell_place spellings None = None
cell_place spellings (Some cell) = origin_place spellings cell.origin

-- what a cell is, where its object's name means it
abbrev pub place_of : List Spelling → List ACell → ℕ → Option Place
place_of spellings cells c = cell_place spellings (slice_get cells c)

-- ---- Terms

abbrev pub read_of : ℕ → Option Place → Option Expression
read_of k None = None
read_of k (Some p) = Some (xBit k p)

abbrev pub one_of : Option Expression → Option Expression
one_of None = None
one_of (Some x) = Some (xNot x)

abbrev pub two_of : (Expression → Expression → Expression) → Option Expression → Option Expression → Option Expression
two_of with None y = None
two_of with (Some x) None = None
two_of with (Some x) (Some y) = Some (with x y)

-- a part has at most 4,096 bytes
abbrev pub part_of : Option Expression → List Expression
part_of None = []
part_of (Some x) = if nat_le (length (text_of x)) 4096 then x ∷ [] else []

-- a formula is split at its topmost `&`, left before right
abbrev pub parts_by : (TermId → List Expression) → Option Expression → Option Term → List Expression
parts_by of whole (Some (And i j)) = of i ++ of j
parts_by of whole _ = part_of whole

module _ (places : ℕ → Option Place) (terms : List Term) where
  abbrev pub bit_of : ℕ → Option Term → Option Expression
  bit_of k (Some (Cell c)) = read_of k (places c)
  bit_of k _ = None

  -- what is written of a term, by what is written of its operands: it is a constant of width 1, a bit of a cell that has a name, or made
  -- by `&`, `o` and `~` of such
  abbrev pub written_by : (TermId → Option Expression) → Option Term → Option Expression
  written_by of (Some (Constant w v)) = if w == 1 then Some (xTruth v) else None
  written_by of (Some (And i j)) = two_of xBoth (of i) (of j)
  written_by of (Some (Or i j)) = two_of xEither (of i) (of j)
  written_by of (Some (Not i)) = one_of (of i)
  written_by of (Some (Bit k i)) = bit_of k (slice_get terms i.0)
  written_by of _ = None

  -- of the terms of numbers below n
  abbrev pub written_below : ℕ → TermId → Option Expression
  written_below zero i = None
  written_below (suc n) i = written_by (written_below n) (slice_get terms i.0)

  -- what is written of a term as a whole
  abbrev pub written_of : TermId → Option Expression
  written_of i = written_below (suc i.0) i

  abbrev pub parts_below : ℕ → TermId → List Expression
  parts_below zero i = []
  parts_below (suc n) i = parts_by (parts_below n) (written_by (written_below n) (slice_get terms i.0)) (slice_get terms i.0)

  -- those parts of a formula that are written
  abbrev pub parts_of : TermId → List Expression
  parts_of i = parts_below (suc i.0) i

-- what is written of a term reads a bit of this cell, as far as its parts have names
module _ (terms : List Term) (c : ℕ) where
  abbrev pub IsCell : Option Term → Type 0
  IsCell (Some (Cell d)) = d ≡ c
  IsCell _ = ⊥

  abbrev pub IsReadBy : (TermId → Type 0) → Option Term → Type 0
  IsReadBy of (Some (And i j)) = of i ⊎ of j
  IsReadBy of (Some (Or i j)) = of i ⊎ of j
  IsReadBy of (Some (Not i)) = of i
  IsReadBy of (Some (Bit k i)) = IsCell (slice_get terms i.0)
  IsReadBy of _ = ⊥

  abbrev pub IsReadBelow : ℕ → TermId → Type 0
  IsReadBelow zero i = ⊥
  IsReadBelow (suc n) i = IsReadBy (IsReadBelow n) (slice_get terms i.0)

abbrev pub Reads : List Term → TermId → ℕ → Type 0
Reads terms term c = IsReadBelow terms c (suc term.0) term
