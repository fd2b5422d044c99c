-- What a step leaves to be written, with what it wrote, is what there was to be written.
use Rattle.std.proofs.Common.{◌≡◌, ℕ, ◌+◌, ◌<◌, ◌⊎◌, inl, inr, List, [], ◌∷◌, ◌++◌, refl, sym, ap, ◌∙◌, append_assoc, arith}
use Rattle.std.specs.Prelude.{codes, Option}
use Rattle.bv_term.specs.declared.term.TermId.{TermId}
use Rattle.bv_term.specs.declared.term.Term.{Term}
use Rattle.witness_expressions.specs.declared.sizes.Size.{Size}
use Rattle.witness_expressions.specs.declared.part.Piece.{Piece}
use Rattle.witness_expressions.specs.declared.part.Piece.TheVariants.{Whole, AndMark, OrMark, Close}
use Rattle.witness_expressions.specs.Expressions.{Row, row_at, rows_of, and_also, conjoined, both_text, not_text}
use Rattle.witness_expressions.specs.Pieces.{piece_text, pieces_text, parts_left, piece_weight, pieces_weight, term_weight, terms_weight}
use Rattle.witness_expressions.specs.Sizes.{size_at, sizes_of, counted}
use Rattle.witness_expressions.proofs.Sized.{size_found, no_parts, bytes_of}
use Rattle.witness_expressions.proofs.Weights.{pieces_text-append, parts_left-append, last_piece, last_part, pieces_weight-append, terms_weight-append}

-- two operands, with a mark between
pub both_kept : (rows : List Row) (text : List ℕ) (ps : List Piece) (i j : TermId) (mark : Piece) (x : List ℕ) → x ≡ both_text (piece_text rows mark) (row_at rows i).text (row_at rows j).text
    → (text ++ codes "(") ++ pieces_text rows (ps ++ (Close ∷ Whole j ∷ mark ∷ Whole i ∷ [])) ≡ text ++ (x ++ pieces_text rows ps)
both_kept rows text ps i j mark x e = rw (e, pieces_text-append rows ps (Close ∷ Whole j ∷ mark ∷ Whole i ∷ [])) (simp append_assoc)

pub not_kept : (rows : List Row) (text : List ℕ) (ps : List Piece) (i : TermId) (x : List ℕ) → x ≡ not_text (row_at rows i).text
    → (text ++ codes "(!") ++ pieces_text rows (ps ++ (Close ∷ Whole i ∷ [])) ≡ text ++ (x ++ pieces_text rows ps)
not_kept rows text ps i x e = rw (e, pieces_text-append rows ps (Close ∷ Whole i ∷ [])) (simp append_assoc)

conjoined-append : (text : List ℕ) (a b : List (List ℕ)) → conjoined text (a ++ b) ≡ conjoined (conjoined text a) b
conjoined-append text [] b = refl
conjoined-append text (part ∷ parts) b = conjoined-append (and_also text part) parts b

also_part : (text part : List ℕ) → and_also text [] ++ part ≡ and_also text part
also_part [] part = refl
also_part (byte ∷ bytes) part = simp append_assoc

-- where no bytes are counted there is no part
pub skipped : (names : ℕ → Option (List ℕ)) (all : List Term) (sizes : List Size) (x : TermId) (s : Size) → s ≡ size_at sizes x → sizes ≡ sizes_of names all → s.parts ≡ 0
    → (row_at (rows_of names all) x).parts ≡ []
skipped names all sizes x s e f z =
    no_parts (row_at (rows_of names all) x).parts
    (sym (ap (λ (v : Size). v.parts) (size_found names all x)) ∙ ap (λ (l : List Size). (size_at l x).parts) (sym f) ∙ ap (λ (v : Size). v.parts) (sym e) ∙ z)

-- and where some are, a formula that is not split is a part
pub taken : (names : ℕ → Option (List ℕ)) (all : List Term) (sizes : List Size) (x : TermId) (s : Size) → s ≡ size_at sizes x → sizes ≡ sizes_of names all → (s.parts ≡ 0 → ⊥)
    → ((row_at (rows_of names all) x).parts ≡ []) ⊎ ((row_at (rows_of names all) x).parts ≡ (row_at (rows_of names all) x).text ∷ [])
    → (row_at (rows_of names all) x).parts ≡ (row_at (rows_of names all) x).text ∷ []
taken names all sizes x s e f some (inl none) =
    absurd (some (ap (λ (v : Size). v.parts) e ∙ ap (λ (l : List Size). (size_at l x).parts) f ∙ ap (λ (v : Size). v.parts) (size_found names all x) ∙ ap (λ (l : List (List ℕ)). counted (bytes_of l)) none))
taken names all sizes x s e f some (inr one) = one

pub skip_kept : (text : List ℕ) (parts left : List (List ℕ)) → parts ≡ [] → conjoined text left ≡ conjoined text (parts ++ left)
skip_kept text parts left e = rw e

pub split_kept : (rows : List Row) (text : List ℕ) (left : List TermId) (i j : TermId) (parts : List (List ℕ)) → parts ≡ (row_at rows i).parts ++ (row_at rows j).parts
    → conjoined text (parts_left rows (left ++ (j ∷ i ∷ []))) ≡ conjoined text (parts ++ parts_left rows left)
split_kept rows text left i j parts e = rw (e, parts_left-append rows left (j ∷ i ∷ []))

pub part_kept : (text next part : List ℕ) (parts left : List (List ℕ)) → next ≡ and_also text part → parts ≡ part ∷ [] → conjoined next left ≡ conjoined text (parts ++ left)
part_kept text next part parts left e f = rw (e, f)

-- the last of a list is taken off, and what a step leaves is what there was
pub popped_text : (rows : List Row) (text next whole : List ℕ) (ps rest : List Piece) (p : Piece) → ps ≡ rest ++ p ∷ [] → next ≡ text ++ (piece_text rows p ++ pieces_text rows rest)
    → text ++ pieces_text rows ps ≡ whole → next ≡ whole
popped_text rows text next whole ps rest p e f g =
    f ∙ ap (λ (l : List ℕ). text ++ l) (sym (ap (pieces_text rows) e ∙ last_piece rows rest p)) ∙ g

pub popped_weight : (n : ℕ) (ps rest : List Piece) (p : Piece) → ps ≡ rest ++ p ∷ [] → n < piece_weight p + pieces_weight rest → n < pieces_weight ps
popped_weight n ps rest p e h = omega (arith, ap pieces_weight e, pieces_weight-append rest (p ∷ []))

pub popped_parts : (rows : List Row) (text next whole : List ℕ) (is rest : List TermId) (i : TermId) → is ≡ rest ++ i ∷ [] → next ≡ conjoined text ((row_at rows i).parts ++ parts_left rows rest)
    → conjoined text (parts_left rows is) ≡ whole → next ≡ whole
popped_parts rows text next whole is rest i e f g =
    f ∙ ap (conjoined text) (sym (ap (parts_left rows) e ∙ last_part rows rest i)) ∙ g

pub popped_terms : (n : ℕ) (is rest : List TermId) (i : TermId) → is ≡ rest ++ i ∷ [] → n < term_weight i + terms_weight rest → n < terms_weight is
popped_terms n is rest i e h = omega (arith, ap terms_weight e, terms_weight-append rest (i ∷ []))
