-- Sizes are those of the texts and parts.
use Rattle.std.proofs.Common.{drop, ◌≡◌, ℕ, zero, suc, ◌+◌, ◌<◌, ◌≤◌, List, [], ◌∷◌, ◌++◌, length, map, Bool, true, false, nat_le, refl, sym, ap, ◌∙◌, arith, length-append}
use Rattle.std.specs.Prelude.{Option, Some, None, slice_get, ◌&&◌, ◌==◌, if◌then◌else◌, min, codes, option_map}
use Rattle.std.proofs.lemmas.List.{map-append}
use Rattle.std.proofs.lemmas.Option.{slice_get-map}
use Rattle.std.proofs.lemmas.Bool.Decides.{nat_tests}
use Rattle.bv_term.specs.declared.term.TermId.{TermId}
use Rattle.bv_term.specs.declared.term.Term.{Term}
use Rattle.bv_term.specs.declared.term.Term.TheVariants.{Constant, And, Or, Not, Bit}
use Rattle.witness_expressions.specs.declared.sizes.Size.{Size}
use Rattle.witness_expressions.specs.Expressions.{Row, row, row_or_none, row_at, row_in, rows_after, rows_of, and_row, leaf, both_text, not_text, bit_text, truth_text, is_named, operand_name}
use Rattle.witness_expressions.specs.Sizes.{size, ended, counted, leaf_size, size_or_none, size_at, and_size, size_in, sizes_after, sizes_of}

-- the bytes of parts, with four more for each
abbrev pub bytes_of : List (List ℕ) → ℕ
bytes_of [] = 0
bytes_of (part ∷ parts) = length part + 4 + bytes_of parts

abbrev pub size_of_row : Row → Size
size_of_row r = size r.written (ended (length r.text)) (counted (bytes_of r.parts))

bytes_of-append : (xs ys : List (List ℕ)) → bytes_of (xs ++ ys) ≡ bytes_of xs + bytes_of ys
bytes_of-append [] ys = omega arith
bytes_of-append (x ∷ xs) ys = omega (arith, bytes_of-append xs ys)

abbrev or_size : Size → Size → Size
or_size x y = leaf_size (x.written && y.written) (x.text + y.text + 6)

same_size : (w v : Bool) (t u p q : ℕ) → w ≡ v → t ≡ u → p ≡ q → size w t p ≡ size v u q
same_size w v t u p q a b c = cc

at_row : (rows : List Row) (i : TermId) → size_at (map size_of_row rows) i ≡ size_of_row (row_at rows i)
at_row rows i = ap size_or_none (slice_get-map size_of_row rows i.0) ∙ by_row (slice_get rows i.0)
  where
    by_row : (found : Option Row) → size_or_none (option_map size_of_row found) ≡ size_of_row (row_or_none found)
    by_row None = refl
    by_row (Some r) = refl

leaf_row : (w : Bool) (n : ℕ) (text : List ℕ) → ended n ≡ ended (length text) → leaf_size w n ≡ size_of_row (leaf w text)
leaf_row false n text e = same_size false false (ended n) (ended (length text)) 0 0 refl e refl
leaf_row true n text e =
    same_size true true (ended n) (ended (length text)) _ _ refl e
    (ap (λ (k : ℕ). if nat_le k 4096 then k + 4 else 0) e ∙ by_test (nat_le (ended (length text)) 4096) (nat_le (length text) 4096) refl refl)
  where
    by_test : (a b : Bool) → nat_le (ended (length text)) 4096 ≡ a → nat_le (length text) 4096 ≡ b
        → (if a then ended (length text) + 4 else 0) ≡ counted (bytes_of (if b then text ∷ [] else []))
    by_test true true e f = grind (arith, nat_tests, e, f)
    by_test true false e f = grind (arith, nat_tests, e, f)
    by_test false true e f = grind (arith, nat_tests, e, f)
    by_test false false e f = refl

both_ended : (mark x y : List ℕ) → length mark ≡ 4 → ended (ended (length x) + ended (length y) + 6) ≡ ended (length (both_text mark x y))
both_ended mark x y e =
    omega (arith, e, length-append x (mark ++ (y ++ codes ")")), length-append mark (y ++ codes ")"), length-append y (codes ")"))

not_ended : (x : List ℕ) → ended (ended (length x) + 3) ≡ ended (length (not_text x))
not_ended x = omega (arith, length-append x (codes ")"))

and_made : (x y : Row) → and_size (size_of_row x) (size_of_row y) ≡ size_of_row (and_row x y)
and_made x y =
    same_size (x.written && y.written) (x.written && y.written) _ _ _ _ refl (both_ended (codes " && ") x.text y.text refl) (omega (arith, bytes_of-append x.parts y.parts))

truth_ended : (v : ℕ) → ended 1 ≡ ended (length (truth_text v))
truth_ended v = by_test (v == 1)
  where
    by_test : (b : Bool) → ended 1 ≡ ended (length (if b then codes "1" else codes "0"))
    by_test true = refl
    by_test false = refl

-- the size of a term over the sizes of rows is the size of its row
size_made : (names : ℕ → Option (List ℕ)) (all : List Term) (rows : List Row) (t : Term) → size_in names all (map size_of_row rows) t ≡ size_of_row (row_in names all rows t)
size_made names all rows (Constant w v) = leaf_row (w == 1) 1 (truth_text v) (truth_ended v)
size_made names all rows (And i j) =
    ap (λ (x : Size). and_size x (size_at (map size_of_row rows) j)) (at_row rows i) ∙ ap (λ (y : Size). and_size (size_of_row (row_at rows i)) y) (at_row rows j) ∙ and_made (row_at rows i) (row_at rows j)
size_made names all rows (Or i j) =
    ap (λ (x : Size). or_size x (size_at (map size_of_row rows) j)) (at_row rows i) ∙ ap (λ (y : Size). or_size (size_of_row (row_at rows i)) y) (at_row rows j)
    ∙ leaf_row ((row_at rows i).written && (row_at rows j).written) _ (both_text (codes " || ") (row_at rows i).text (row_at rows j).text) (both_ended (codes " || ") (row_at rows i).text (row_at rows j).text refl)
size_made names all rows (Not i) =
    ap (λ (x : Size). leaf_size x.written (x.text + 3)) (at_row rows i) ∙ leaf_row (row_at rows i).written _ (not_text (row_at rows i).text) (not_ended (row_at rows i).text)
size_made names all rows (Bit k i) =
    leaf_row (is_named (operand_name names (slice_get all i.0))) _ (bit_text k (operand_name names (slice_get all i.0))) refl
size_made names all rows _ = refl

sizes_made : (names : ℕ → Option (List ℕ)) (all : List Term) (rows : List Row) (ts : List Term) → sizes_after names all (map size_of_row rows) ts ≡ map size_of_row (rows_after names all rows ts)
sizes_made names all rows [] = refl
sizes_made names all rows (t ∷ ts) =
    ap (λ (s : Size). sizes_after names all (map size_of_row rows ++ s ∷ []) ts) (size_made names all rows t)
    ∙ ap (λ (l : List Size). sizes_after names all l ts) (sym (map-append size_of_row rows (row_in names all rows t ∷ [])))
    ∙ sizes_made names all (rows ++ row_in names all rows t ∷ []) ts

-- the size of a table's term is that of its row
pub size_found : (names : ℕ → Option (List ℕ)) (all : List Term) (i : TermId) → size_at (sizes_of names all) i ≡ size_of_row (row_at (rows_of names all) i)
unfolding sizes_of rows_of
size_found names all i = ap (λ (l : List Size). size_at l i) (sizes_made names all [] all) ∙ at_row (rows_after names all [] all) i

-- a row without bytes has no part
pub no_parts : (parts : List (List ℕ)) → counted (bytes_of parts) ≡ 0 → parts ≡ []
no_parts [] h = refl
no_parts (part ∷ parts) h = absurd (omega arith)

get_drop : (ts : List Term) (n : ℕ) (t : Term) → slice_get ts n ≡ Some t → drop n ts ≡ t ∷ drop (suc n) ts
get_drop [] n t e = cc
get_drop (u ∷ us) zero t e = let same : u ≡ t = cc in ap (λ (v : Term). v ∷ us) same
get_drop (u ∷ us) (suc n) t e = get_drop us n t e

-- one size more
pub one_more : (names : ℕ → Option (List ℕ)) (all : List Term) (sizes : List Size) (n : ℕ) (t : Term) (s : Size) (whole : List Size) → slice_get all n ≡ Some t → s ≡ size_in names all sizes t
    → sizes_after names all sizes (drop n all) ≡ whole → sizes_after names all (sizes ++ s ∷ []) (drop (n + 1) all) ≡ whole
one_more names all sizes n t s whole e f g =
    let next : suc n ≡ n + 1 = omega arith in
    rw (f, ← next) (ap (λ (l : List Term). sizes_after names all sizes l) (sym (get_drop all n t e)) ∙ g)
