-- What is still to be written of a text: a list of pieces, of which the last comes first.
use Rattle.std.specs.Prelude.{ℕ, suc, ◌+◌, ◌^◌, List, [], ◌∷◌, ◌++◌, codes}
use Rattle.bv_term.specs.declared.term.TermId.{TermId}
use Rattle.witness_expressions.specs.declared.part.Piece.{Piece}
use Rattle.witness_expressions.specs.declared.part.Piece.TheVariants.{Whole, AndMark, OrMark, Close}
use Rattle.witness_expressions.specs.Expressions.{Row, row_at}

abbrev pub piece_text : List Row → Piece → List ℕ
piece_text rows (Whole i) = (row_at rows i).text
piece_text rows AndMark = codes " && "
piece_text rows OrMark = codes " || "
piece_text rows Close = codes ")"

abbrev pub pieces_text : List Row → List Piece → List ℕ
pieces_text rows [] = []
pieces_text rows (p ∷ ps) = pieces_text rows ps ++ piece_text rows p

-- the parts of formulas that are still to be written, the last one's first
abbrev pub parts_left : List Row → List TermId → List (List ℕ)
parts_left rows [] = []
parts_left rows (i ∷ is) = parts_left rows is ++ (row_at rows i).parts

-- a number that falls with each step: a term counts more than its operands, whose numbers are lower
abbrev pub term_weight : TermId → ℕ
term_weight i = 5 ^ suc i.0

abbrev pub piece_weight : Piece → ℕ
piece_weight (Whole i) = term_weight i
piece_weight AndMark = 1
piece_weight OrMark = 1
piece_weight Close = 1

abbrev pub pieces_weight : List Piece → ℕ
pieces_weight [] = 0
pieces_weight (p ∷ ps) = piece_weight p + pieces_weight ps

abbrev pub terms_weight : List TermId → ℕ
terms_weight [] = 0
terms_weight (i ∷ is) = term_weight i + terms_weight is
