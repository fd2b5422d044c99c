-- Widths and values of a table that grows.
use Rattle.std.proofs.Common.{◌≡◌, ℕ, ◌+◌, ◌<◌, ◌≤◌, length, List, [], ◌∷◌, ◌++◌, arith, ◌∙◌, refl, suc, zero, slice_index, slice_index_or, All, length-append}
use Rattle.bv_term.specs.declared.term.Term.{Term}
use Rattle.bv_term.specs.declared.term.Term.TheVariants.{Constant, Cell, Element, Add, Subtract, Multiply, Divide, Remainder, And, Or, Xor, Not, ShiftLeft, ShiftRight, ShiftSigned, Equal, Less, LessSigned, Select, ZeroExtend, SignExtend, Truncate, Bit}
use Rattle.bv_term.specs.WellFormed.{Table, IsTable, IsWidth, Fits, AllFit, width_in, widths_after, widths, with_term}

-- the widths of more terms come after those of the first
pub widths-append : (cells ws : List ℕ) (xs ys : List Term)
    → widths_after cells ws (xs ++ ys) ≡ widths_after cells (widths_after cells ws xs) ys
widths-append cells ws [] ys = refl
widths-append cells ws (x ∷ xs) ys = widths-append cells (ws ++ width_in cells ws x ∷ []) xs ys

pub length-widths : (cells ws : List ℕ) (xs : List Term) → length (widths_after cells ws xs) ≡ length ws + length xs
length-widths cells ws [] = omega arith
length-widths cells ws (x ∷ xs) =
    let h : length (widths_after cells (ws ++ width_in cells ws x ∷ []) xs) ≡ length (ws ++ width_in cells ws x ∷ []) + length xs =
    length-widths cells (ws ++ width_in cells ws x ∷ []) xs in
    let l : length (ws ++ width_in cells ws x ∷ []) ≡ length ws + 1 = length-append ws (width_in cells ws x ∷ []) in
    omega arith

-- a term that fits after well-formed ones goes on
pub AllFit-snoc : (cells ws : List ℕ) (xs : List Term) (t : Term)
    → AllFit cells ws xs → Fits cells (widths_after cells ws xs) t → AllFit cells ws (xs ++ t ∷ [])
AllFit-snoc cells ws [] t all fits = (fits, tt)
AllFit-snoc cells ws (x ∷ xs) t all fits =
    (all.0, AllFit-snoc cells (ws ++ width_in cells ws x ∷ []) xs t all.1 fits)

-- the width of a term that fits is a width
pub IsWidth-term : (cells ws : List ℕ) (t : Term) → All IsWidth cells → All IsWidth ws → Fits cells ws t → IsWidth (width_in cells ws t)
IsWidth-term cells ws (Constant w v) c a f = f.0
IsWidth-term cells ws (Cell n) c a f = c n 0 f
IsWidth-term cells ws (Element first n i) c a f = c first 0 (let p : 1 ≤ n = f.0.0 in let q : first + n ≤ length cells = f.0.1 in omega arith)
IsWidth-term cells ws (Add i j) c a f = a i.0 0 f.0
IsWidth-term cells ws (Subtract i j) c a f = a i.0 0 f.0
IsWidth-term cells ws (Multiply i j) c a f = a i.0 0 f.0
IsWidth-term cells ws (Divide i j) c a f = a i.0 0 f.0
IsWidth-term cells ws (Remainder i j) c a f = a i.0 0 f.0
IsWidth-term cells ws (And i j) c a f = a i.0 0 f.0
IsWidth-term cells ws (Or i j) c a f = a i.0 0 f.0
IsWidth-term cells ws (Xor i j) c a f = a i.0 0 f.0
IsWidth-term cells ws (Not i) c a f = a i.0 0 f
IsWidth-term cells ws (ShiftLeft i j) c a f = a i.0 0 f.0
IsWidth-term cells ws (ShiftRight i j) c a f = a i.0 0 f.0
IsWidth-term cells ws (ShiftSigned i j) c a f = a i.0 0 f.0
IsWidth-term cells ws (Equal i j) c a f = (omega arith, omega arith)
IsWidth-term cells ws (Less i j) c a f = (omega arith, omega arith)
IsWidth-term cells ws (LessSigned i j) c a f = (omega arith, omega arith)
IsWidth-term cells ws (Select i j k) c a f = a j.0 0 f.2.0
IsWidth-term cells ws (ZeroExtend w i) c a f = f.1
IsWidth-term cells ws (SignExtend w i) c a f = f.1
IsWidth-term cells ws (Truncate w i) c a f = f.1
IsWidth-term cells ws (Bit k i) c a f = (omega arith, omega arith)

All-snoc : (ws : List ℕ) (w : ℕ) → All IsWidth ws → IsWidth w → All IsWidth (ws ++ w ∷ [])
All-snoc [] w a h = λ k d lt. elim k as (λ k. k < 1 → IsWidth (slice_index_or (w ∷ []) k d)) [ zero ↦ (λ _. h) | suc j ↦ (λ l. absurd (omega (arith, l))) ] lt
All-snoc (x ∷ ws) w a h = λ k d lt.
    elim k as (λ k. k < suc (length (ws ++ w ∷ [])) → IsWidth (slice_index_or (x ∷ (ws ++ w ∷ [])) k d))
    [ zero ↦ (λ _. a 0 d (omega arith)) | suc j ↦ (λ l. All-snoc ws w (λ i e less. a (suc i) e (omega (arith, less))) h j d (omega (arith, l))) ] lt

-- so each term of a table has a width
pub All-widths : (cells ws : List ℕ) (xs : List Term) → All IsWidth cells → All IsWidth ws → AllFit cells ws xs
    → All IsWidth (widths_after cells ws xs)
All-widths cells ws [] c a f = a
All-widths cells ws (x ∷ xs) c a f =
    All-widths cells (ws ++ width_in cells ws x ∷ []) xs c (All-snoc ws (width_in cells ws x) a (IsWidth-term cells ws x c a f.0)) f.1

-- a table's widths, in one fact
pub widths-of : (table : Table) → IsTable table
    → (length (widths table) ≡ length table.terms) × All IsWidth (widths table)
widths-of table h = (
  length-widths table.cells [] table.terms ∙ omega arith,
  All-widths table.cells [] table.terms h.cells (λ k d lt. absurd (omega arith)) h.terms,
)

-- the table with one more well-formed term
pub IsTable-snoc : (table : Table) (t : Term) → IsTable table → Fits table.cells (widths table) t → IsTable (with_term table t)
IsTable-snoc table t h f = record { cells = h.cells; terms = AllFit-snoc table.cells [] table.terms t h.terms f }

-- what a table keeps says of its widths
pub kept-widths : (cells : List ℕ) (terms : List Term) (ws : List ℕ)
    → IsTable (record { cells = cells; terms = terms }) → ws ≡ widths_after cells [] terms
    → (length ws ≡ length terms) × All IsWidth ws
kept-widths cells terms ws h e =
    let f = widths-of (record { cells = cells; terms = terms }) h in
    (rw e f.0, rw e f.1)

-- a number that is the item at an index within the list, whatever stands past the end
pub index_of : (xs : List ℕ) (i r : ℕ) → i < length xs → r ≡ slice_index_or xs i r → r ≡ slice_index xs i
index_of [] i r lt e = absurd (omega arith)
index_of (x ∷ xs) zero r lt e = e
index_of (x ∷ xs) (suc i) r lt e = index_of xs i r (omega arith) e
