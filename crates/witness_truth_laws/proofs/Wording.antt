-- The text that is written of a formula is that of its expressions.
use Rattle.std.proofs.Common.{◌≡◌, ◌∙◌, ap, sym, subst, refl, ℕ, zero, suc, ◌<◌, List, [], ◌∷◌, ◌++◌, length, Bool, true, false, arith}
use Rattle.std.specs.Prelude.{Option, Some, None, slice_get, map, ◌&&◌, ◌==◌, nat_le, if◌then◌else◌, codes}
use Rattle.bv_term.specs.declared.term.TermId.{TermId}
use Rattle.bv_term.specs.declared.term.Term.{Term}
use Rattle.bv_term.specs.declared.term.Term.TheVariants.{Constant, Cell, And, Or, Not, Bit}
use Rattle.bv_term.specs.WellFormed.{Table, IsTable}
use Rattle.c_graph.specs.declared.graph.Cell.{Cell as ACell}
use Rattle.c_graph.specs.declared.graph.Origin.{Origin}
use Rattle.c_graph.specs.declared.graph.Origin.TheVariants.{Element, Saved}
use Rattle.witness_expressions.specs.declared.names.Spelling.{Spelling}
use Rattle.witness_expressions.specs.declared.names.Spelling.TheVariants.{Hidden, Scalar, Array}
use Rattle.witness_expressions.specs.Names.{named, cell_text, origin_text, element_text}
use Rattle.witness_expressions.specs.Expressions.{Row, row, row_at, row_in, rows_of, and_row, leaf, both_text, not_text, bit_text, truth_text, is_named, operand_name, conjoined, or_one, expression_of}
use Rattle.witness_truth_laws.specs.Written.{Place, Expression, xTruth, xBit, xBoth, xEither, xNot, place_text, text_of, read_of, one_of, two_of, part_of, parts_by, place_of, cell_place, origin_place, element_place, written_by, written_below, parts_below}
use Rattle.witness_truth_laws.specs.Written as written
use Rattle.witness_truth_laws.specs.Laws.{TextIsWritten}
use Rattle.witness_truth_laws.proofs.Lines.{row_found, row_none, operands_lower}

-- ---- Names

abbrev texted : Option Place → Option (List ℕ)
texted None = None
texted (Some p) = Some (place_text p)

element-texted : (s : Option Spelling) (k : ℕ) → element_text s k ≡ texted (element_place s k)
element-texted None k = refl
element-texted (Some Hidden) k = refl
element-texted (Some (Scalar name)) k = refl
element-texted (Some (Array name)) k = refl

origin-texted : (spellings : List Spelling) (o : Origin) → origin_text spellings o ≡ texted (origin_place spellings o)
origin-texted spellings (Element object k) = element-texted (slice_get spellings object) k
origin-texted spellings Saved = refl

cell-texted : (spellings : List Spelling) (c : Option ACell) → cell_text spellings c ≡ texted (cell_place spellings c)
cell-texted spellings None = refl
cell-texted spellings (Some cell) = origin-texted spellings cell.origin

-- ---- Rows

-- a row says what is written as a whole
abbrev RowSays : Row → Option Expression → Type 0
RowSays r None = r.written ≡ false
RowSays r (Some x) = (r.written ≡ true) × (r.text ≡ text_of x)

row-as : (r s : Row) (w : Option Expression) → r ≡ s → RowSays s w → RowSays r w
row-as r s w e h = subst (λ (x : Row). RowSays x w) (sym e) h

truth-worded : (b : Bool) (v : ℕ) → RowSays (leaf b (truth_text v)) (if b then Some (xTruth v) else None)
truth-worded true v = (refl, refl)
truth-worded false v = refl

and-worded : (r s : Row) (w u : Option Expression) → RowSays r w → RowSays s u → RowSays (and_row r s) (two_of xBoth w u)
and-worded r s None u h k = ap (λ (b : Bool). b && s.written) h
and-worded r s (Some x) None (a, b) k = ap (λ (z : Bool). z && s.written) a ∙ k
and-worded r s (Some x) (Some y) (a, b) (c, d) =
    (ap (λ (z : Bool). z && s.written) a ∙ c, ap (λ (z : List ℕ). both_text (codes " && ") z s.text) b ∙ ap (both_text (codes " && ") (text_of x)) d)

or-worded : (r s : Row) (w u : Option Expression) → RowSays r w → RowSays s u → RowSays (leaf (r.written && s.written) (both_text (codes " || ") r.text s.text)) (two_of xEither w u)
or-worded r s None u h k = ap (λ (b : Bool). b && s.written) h
or-worded r s (Some x) None (a, b) k = ap (λ (z : Bool). z && s.written) a ∙ k
or-worded r s (Some x) (Some y) (a, b) (c, d) =
    (ap (λ (z : Bool). z && s.written) a ∙ c, ap (λ (z : List ℕ). both_text (codes " || ") z s.text) b ∙ ap (both_text (codes " || ") (text_of x)) d)

not-worded : (r : Row) (w : Option Expression) → RowSays r w → RowSays (leaf r.written (not_text r.text)) (one_of w)
not-worded r None h = h
not-worded r (Some x) (a, b) = (a, ap not_text b)

read-worded : (k : ℕ) (name : Option (List ℕ)) (p : Option Place) → name ≡ texted p → RowSays (leaf (is_named name) (bit_text k name)) (read_of k p)
read-worded k name None e = ap is_named e
read-worded k name (Some p) e = (ap is_named e, ap (bit_text k) e)

-- ---- Parts

part-if : (x : Expression) (text : List ℕ) (b c : Bool) → b ≡ true → text ≡ text_of x → nat_le (length text) 4096 ≡ c
    → (if b && nat_le (length text) 4096 then text ∷ [] else []) ≡ map text_of (if nat_le (length (text_of x)) 4096 then x ∷ [] else [])
part-if x text b c e f g =
    ap (λ (z : Bool). if z && nat_le (length text) 4096 then text ∷ [] else []) e
    ∙ ap (λ (z : List ℕ). if nat_le (length z) 4096 then z ∷ [] else []) f
    ∙ either-way (nat_le (length (text_of x)) 4096)
  where
    either-way : (z : Bool) → (if z then text_of x ∷ [] else []) ≡ map text_of (if z then x ∷ [] else [])
    either-way true = refl
    either-way false = refl

leaf-parts : (b : Bool) (text : List ℕ) (w : Option Expression) → RowSays (leaf b text) w → (leaf b text).parts ≡ map text_of (part_of w)
leaf-parts b text None h = ap (λ (z : Bool). if z && nat_le (length text) 4096 then text ∷ [] else []) h
leaf-parts b text (Some x) (h, k) = part-if x text b (nat_le (length text) 4096) h k refl

part-worded : (r : Row) (b : Bool) (text : List ℕ) (w : Option Expression) → r ≡ leaf b text → RowSays r w → r.parts ≡ map text_of (part_of w)
part-worded r b text w e h = ap (λ (x : Row). x.parts) e ∙ leaf-parts b text w (subst (λ (x : Row). RowSays x w) e h)

map-append : (xs ys : List Expression) → map text_of (xs ++ ys) ≡ map text_of xs ++ map text_of ys
map-append [] ys = refl
map-append (x ∷ xs) ys = ap (λ (l : List (List ℕ)). text_of x ∷ l) (map-append xs ys)

both-parts : (a b : List (List ℕ)) (xs ys : List Expression) → a ≡ map text_of xs → b ≡ map text_of ys → a ++ b ≡ map text_of (xs ++ ys)
both-parts a b xs ys e f = ap (λ (l : List (List ℕ)). l ++ b) e ∙ ap (λ (l : List (List ℕ)). map text_of xs ++ l) f ∙ sym (map-append xs ys)

module _ (names : ℕ → Option (List ℕ)) (places : ℕ → Option Place) (texts : (c : ℕ) → names c ≡ texted (places c)) (table : Table) (is : IsTable table) where
  abbrev rows : List Row
  rows = rows_of names table.terms

  bit-worded : (k : ℕ) (found : Option Term) → RowSays (leaf (is_named (operand_name names found)) (bit_text k (operand_name names found))) (written.bit_of places table.terms k found)
  bit-worded k (Some (Cell c)) = read-worded k (names c) (places c) (texts c)
  bit-worded k _ = refl

  worded-by : (of : TermId → Option Expression) (t : TermId) → ((i : TermId) → i.0 < t.0 → RowSays (row_at rows i) (of i)) → (found : Option Term) → slice_get table.terms t.0 ≡ found
      → RowSays (row_at rows t) (written_by places table.terms of found)
  worded-by of t h None e = ap (λ (r : Row). r.written) (row_none names table t e)
  worded-by of t h (Some (Constant w v)) e = row-as _ _ _ (row_found names table t (Constant w v) is e) (truth-worded (w == 1) v)
  worded-by of t h (Some (And i j)) e =
      let low = operands_lower table t (And i j) is e in
      row-as _ _ _ (row_found names table t (And i j) is e) (and-worded (row_at rows i) (row_at rows j) (of i) (of j) (h i low.0) (h j low.1))
  worded-by of t h (Some (Or i j)) e =
      let low = operands_lower table t (Or i j) is e in
      row-as _ _ _ (row_found names table t (Or i j) is e) (or-worded (row_at rows i) (row_at rows j) (of i) (of j) (h i low.0) (h j low.1))
  worded-by of t h (Some (Not i)) e =
      row-as _ _ _ (row_found names table t (Not i) is e) (not-worded (row_at rows i) (of i) (h i (operands_lower table t (Not i) is e)))
  worded-by of t h (Some (Bit k i)) e = row-as _ _ _ (row_found names table t (Bit k i) is e) (bit-worded k (slice_get table.terms i.0))
  worded-by of t h (Some u) e = ap (λ (r : Row). r.written) (row_found names table t u is e)

  worded : (n : ℕ) (t : TermId) → t.0 < n → RowSays (row_at rows t) (written_below places table.terms n t)
  worded zero t lt = absurd (omega (arith, lt))
  worded (suc n) t lt = worded-by (written_below places table.terms n) t (λ i low. worded n i (omega (arith, low, lt))) (slice_get table.terms t.0) refl

  parted-by : (of : TermId → List Expression) (t : TermId) → ((i : TermId) → i.0 < t.0 → (row_at rows i).parts ≡ map text_of (of i)) → (whole : Option Expression) → RowSays (row_at rows t) whole
      → (found : Option Term) → slice_get table.terms t.0 ≡ found → (row_at rows t).parts ≡ map text_of (parts_by of whole found)
  parted-by of t h whole s None e = part-worded _ false [] whole (row_none names table t e) s
  parted-by of t h whole s (Some (And i j)) e =
      let low = operands_lower table t (And i j) is e in
      ap (λ (r : Row). r.parts) (row_found names table t (And i j) is e) ∙ both-parts _ _ (of i) (of j) (h i low.0) (h j low.1)
  parted-by of t h whole s (Some (Constant w v)) e = part-worded _ _ _ whole (row_found names table t (Constant w v) is e) s
  parted-by of t h whole s (Some (Or i j)) e = part-worded _ _ _ whole (row_found names table t (Or i j) is e) s
  parted-by of t h whole s (Some (Not i)) e = part-worded _ _ _ whole (row_found names table t (Not i) is e) s
  parted-by of t h whole s (Some (Bit k i)) e = part-worded _ _ _ whole (row_found names table t (Bit k i) is e) s
  parted-by of t h whole s (Some u) e = part-worded _ false [] whole (row_found names table t u is e) s

  parted : (n : ℕ) (t : TermId) → t.0 < n → (row_at rows t).parts ≡ map text_of (parts_below places table.terms n t)
  parted zero t lt = absurd (omega (arith, lt))
  parted (suc n) t lt =
      parted-by (parts_below places table.terms n) t (λ i low. parted n i (omega (arith, low, lt))) (written_below places table.terms (suc n) t) (worded (suc n) t lt) (slice_get table.terms t.0) refl

pub text-is-written : TextIsWritten
text-is-written spellings cells table formula is =
    let texts : (c : ℕ) → named spellings cells c ≡ texted (place_of spellings cells c) = λ c. cell-texted spellings (slice_get cells c) in
    ap (λ (l : List (List ℕ)). or_one (conjoined [] l)) (parted (named spellings cells) (place_of spellings cells) texts table is (suc formula.0) formula (omega arith))
