-- Lists of what is still to be written: behind each other, and lighter with each step.
use Rattle.std.proofs.Common.{◌≡◌, ℕ, zero, suc, ◌+◌, ◌-◌, ◌*◌, ◌^◌, ◌<◌, ◌≤◌, List, [], ◌∷◌, ◌++◌, refl, sym, ap, ◌∙◌, arith, append_assoc, append-nil}
use Rattle.std.proofs.Math.Nat.{pow-suc, pow-zero}
use Rattle.bv_term.specs.declared.term.TermId.{TermId}
use Rattle.witness_expressions.specs.declared.part.Piece.{Piece}
use Rattle.witness_expressions.specs.declared.part.Piece.TheVariants.{Whole, AndMark, OrMark, Close}
use Rattle.witness_expressions.specs.Expressions.{Row, row_at, and_also, conjoined}
use Rattle.witness_expressions.specs.Pieces.{piece_text, pieces_text, parts_left, term_weight, piece_weight, pieces_weight, terms_weight}

grown : (i k : ℕ) → 5 ^ i ≤ 5 ^ (k + i)
grown i zero = let same : 0 + i ≡ i = omega arith in rw same (omega arith)
grown i (suc k) =
    let next : suc k + i ≡ suc (k + i) = omega arith in
    rw next (omega (arith, grown i k, pow-suc 5 (k + i)))

-- a term is at least five times as heavy as each of its operands
lighter : (i x : ℕ) → i < x → 5 ^ suc i * 5 ≤ 5 ^ suc x
lighter i x h =
    let there : x - suc i + suc i ≡ x = omega arith in
    omega (arith, rw there at (grown (suc i) (x - suc i)), pow-suc 5 x)

heavy : (x : ℕ) → 1 ≤ 5 ^ x
heavy x = let there : x + 0 ≡ x = omega arith in omega (arith, rw there at (grown 0 x), pow-zero 5)

pub two_lighter : (i j x : ℕ) → i < x → j < x → 5 ^ suc i + 5 ^ suc j + 2 < 5 ^ suc x
two_lighter i j x h g = omega (arith, lighter i x h, lighter j x g, heavy (suc i), heavy (suc j))

pub one_lighter : (i x : ℕ) → i < x → 5 ^ suc i + 1 < 5 ^ suc x
one_lighter i x h = omega (arith, lighter i x h, heavy (suc i))

pub some_weight : (x : ℕ) → 0 < 5 ^ suc x
some_weight x = omega (arith, heavy (suc x))

pub pieces_weight-append : (ps qs : List Piece) → pieces_weight (ps ++ qs) ≡ pieces_weight ps + pieces_weight qs
pieces_weight-append [] qs = omega arith
pieces_weight-append (p ∷ ps) qs = omega (arith, pieces_weight-append ps qs)

pub terms_weight-append : (is js : List TermId) → terms_weight (is ++ js) ≡ terms_weight is + terms_weight js
terms_weight-append [] js = omega arith
terms_weight-append (i ∷ is) js = omega (arith, terms_weight-append is js)

pub pieces_text-append : (rows : List Row) (ps qs : List Piece) → pieces_text rows (ps ++ qs) ≡ pieces_text rows qs ++ pieces_text rows ps
pieces_text-append rows [] qs = sym (append-nil (pieces_text rows qs))
pieces_text-append rows (p ∷ ps) qs =
    ap (λ (l : List ℕ). l ++ piece_text rows p) (pieces_text-append rows ps qs) ∙ append_assoc (pieces_text rows qs) (pieces_text rows ps) (piece_text rows p)

pub parts_left-append : (rows : List Row) (is js : List TermId) → parts_left rows (is ++ js) ≡ parts_left rows js ++ parts_left rows is
parts_left-append rows [] js = sym (append-nil (parts_left rows js))
parts_left-append rows (i ∷ is) js =
    ap (λ (l : List (List ℕ)). l ++ (row_at rows i).parts) (parts_left-append rows is js) ∙ append_assoc (parts_left rows js) (parts_left rows is) (row_at rows i).parts

-- a list's last element is the first to be written
pub last_piece : (rows : List Row) (ps : List Piece) (p : Piece) → pieces_text rows (ps ++ p ∷ []) ≡ piece_text rows p ++ pieces_text rows ps
last_piece rows ps p = pieces_text-append rows ps (p ∷ [])

pub last_part : (rows : List Row) (is : List TermId) (i : TermId) → parts_left rows (is ++ i ∷ []) ≡ (row_at rows i).parts ++ parts_left rows is
last_part rows is i = parts_left-append rows is (i ∷ [])
