-- The value of a term in a store.
use Rattle.std.specs.Prelude.{ℕ, ◌+◌, ◌^◌, ◌%◌, ◌<◌, ◌≡◌, ◌==◌, List, [], ◌∷◌, ◌++◌, length, slice_index, nat_lt, bit_and, bit_or, bit_xor, if◌then◌else◌}
use Rattle.bv_term.specs.declared.term.TermId.{TermId}
use Rattle.bv_term.specs.declared.term.Term.{Term}
use Rattle.bv_term.specs.declared.term.Term.TheVariants.{Constant, Cell, Element, Add, Subtract, Multiply, Divide, Remainder, And, Or, Xor, Not, ShiftLeft, ShiftRight, ShiftSigned, Equal, Less, LessSigned, Select, ZeroExtend, SignExtend, Truncate, Bit}
use Rattle.bv_term.specs.Numbers.{sum_in, difference_in, product_in, quotient_of, remainder_of, complement_in, left_in, right_in, signed_right_in, raised, truth, sign_extended, bit_of}
use Rattle.bv_term.specs.WellFormed.{Table, Fits, width_in}

-- a store: a value for each cell, below two to the power of the cell's width; cells past its end hold 0
abbrev pub IsStore : List ℕ → List ℕ → Type 0
IsStore cells store = (c : ℕ) → c < length cells → slice_index store c < 2 ^ slice_index cells c

-- each value is below two to the power of its width
abbrev pub AreBelow : List ℕ → List ℕ → Type 0
AreBelow ws vs = (k : ℕ) → k < length ws → slice_index vs k < 2 ^ slice_index ws k

-- the term is well formed over some cells and earlier terms of these widths
abbrev pub FitsSome : List ℕ → Term → Type 0
FitsSome ws t = (cells : List ℕ) × Fits cells ws t

-- the value of a term in a store, the earlier terms having these widths and values
abbrev pub value_in : List ℕ → List ℕ → List ℕ → Term → ℕ
value_in store ws vs (Constant w v) = v
value_in store ws vs (Cell c) = slice_index store c
value_in store ws vs (Element first n i) =
    if nat_lt (slice_index vs i.0) n then slice_index store (first + slice_index vs i.0) else 0
value_in store ws vs (Add i j) = sum_in (slice_index ws i.0) (slice_index vs i.0) (slice_index vs j.0)
value_in store ws vs (Subtract i j) = difference_in (slice_index ws i.0) (slice_index vs i.0) (slice_index vs j.0)
value_in store ws vs (Multiply i j) = product_in (slice_index ws i.0) (slice_index vs i.0) (slice_index vs j.0)
value_in store ws vs (Divide i j) = quotient_of (slice_index vs i.0) (slice_index vs j.0)
value_in store ws vs (Remainder i j) = remainder_of (slice_index vs i.0) (slice_index vs j.0)
value_in store ws vs (And i j) = bit_and (slice_index vs i.0) (slice_index vs j.0)
value_in store ws vs (Or i j) = bit_or (slice_index vs i.0) (slice_index vs j.0)
value_in store ws vs (Xor i j) = bit_xor (slice_index vs i.0) (slice_index vs j.0)
value_in store ws vs (Not i) = complement_in (slice_index ws i.0) (slice_index vs i.0)
value_in store ws vs (ShiftLeft i j) = left_in (slice_index ws i.0) (slice_index vs i.0) (slice_index vs j.0)
value_in store ws vs (ShiftRight i j) = right_in (slice_index ws i.0) (slice_index vs i.0) (slice_index vs j.0)
value_in store ws vs (ShiftSigned i j) =
    signed_right_in (slice_index ws i.0) (slice_index vs i.0) (slice_index vs j.0)
value_in store ws vs (Equal i j) = truth (slice_index vs i.0 == slice_index vs j.0)
value_in store ws vs (Less i j) = truth (nat_lt (slice_index vs i.0) (slice_index vs j.0))
value_in store ws vs (LessSigned i j) =
    truth (nat_lt (raised (slice_index ws i.0) (slice_index vs i.0)) (raised (slice_index ws i.0) (slice_index vs j.0)))
value_in store ws vs (Select i j k) =
    if slice_index vs i.0 == 1 then slice_index vs j.0 else slice_index vs k.0
value_in store ws vs (ZeroExtend w i) = slice_index vs i.0
value_in store ws vs (SignExtend w i) = sign_extended (slice_index ws i.0) w (slice_index vs i.0)
value_in store ws vs (Truncate w i) = slice_index vs i.0 % 2 ^ w
value_in store ws vs (Bit k i) = bit_of k (slice_index vs i.0)

-- the values of earlier terms, and then of these
abbrev pub values_after : List ℕ → List ℕ → List ℕ → List ℕ → List Term → List ℕ
values_after cells store ws vs [] = vs
values_after cells store ws vs (t ∷ ts) =
    values_after cells store (ws ++ width_in cells ws t ∷ []) (vs ++ value_in store ws vs t ∷ []) ts

-- the values of a table's terms in a store, in their order
abbrev pub values : Table → List ℕ → List ℕ
values table store = values_after table.cells store [] [] table.terms

-- the value of a term of the table in a store
abbrev pub value : Table → List ℕ → TermId → ℕ
value table store t = slice_index (values table store) t.0

-- a term of width 1 holds in a store where its value there is 1
abbrev pub Holds : Table → List ℕ → TermId → Type 0
Holds table store t = value table store t ≡ 1
