-- Terms as rows of numbers, under which a table finds them.
use Rattle.std.specs.Prelude.{ℕ, Bool, ◌==◌, ◌&&◌, ◌+◌, ◌^◌, ◌<◌, ◌≡◌, List, [], ◌∷◌, length, Option, None, Some, if◌then◌else◌}
use Rattle.std.specs.declared.hash.FoldHasher.{FoldHasher}
use Rattle.std.specs.declared.hash.BuildHasherDefault.{BuildHasherDefault}
use Rattle.std.specs.HashMap.{get, HashMap}
use Rattle.bv_term.specs.WellFormed.{IsTable, Table, widths_after, with_term}
use Rattle.bv_term.specs.declared.term.TermId.{TermId}
use Rattle.bv_term.specs.declared.key.Key.{Key}
use Rattle.bv_term.specs.declared.term.Term.{Term}
use Rattle.bv_term.specs.declared.term.Term.TheVariants.{Constant, Cell, Element, Add, Subtract, Multiply, Divide, Remainder, And, Or, Xor, Not, ShiftLeft, ShiftRight, ShiftSigned, Equal, Less, LessSigned, Select, ZeroExtend, SignExtend, Truncate, Bit}

abbrev pub key : ℕ → ℕ → ℕ → ℕ → ℕ → Key
key kind a b c v = record { kind = kind; first = a; second = b; third = c; number = v }

-- the row of a term; different terms have different rows
abbrev pub key_of : Term → Key
key_of (Constant w v) = key 0 w 0 0 v
key_of (Cell c) = key 1 c 0 0 0
key_of (Element first n i) = key 2 first n i.0 0
key_of (Add i j) = key 3 i.0 j.0 0 0
key_of (Subtract i j) = key 4 i.0 j.0 0 0
key_of (Multiply i j) = key 5 i.0 j.0 0 0
key_of (Divide i j) = key 6 i.0 j.0 0 0
key_of (Remainder i j) = key 7 i.0 j.0 0 0
key_of (And i j) = key 8 i.0 j.0 0 0
key_of (Or i j) = key 9 i.0 j.0 0 0
key_of (Xor i j) = key 10 i.0 j.0 0 0
key_of (Not i) = key 11 i.0 0 0 0
key_of (ShiftLeft i j) = key 12 i.0 j.0 0 0
key_of (ShiftRight i j) = key 13 i.0 j.0 0 0
key_of (ShiftSigned i j) = key 14 i.0 j.0 0 0
key_of (Equal i j) = key 15 i.0 j.0 0 0
key_of (Less i j) = key 16 i.0 j.0 0 0
key_of (LessSigned i j) = key 17 i.0 j.0 0 0
key_of (Select i j k) = key 18 i.0 j.0 k.0 0
key_of (ZeroExtend w i) = key 19 w i.0 0 0
key_of (SignExtend w i) = key 20 w i.0 0 0
key_of (Truncate w i) = key 21 w i.0 0 0
key_of (Bit k i) = key 22 k i.0 0 0

abbrev pub same_key : Key → Key → Bool
same_key a b =
    a.kind == b.kind && (a.first == b.first && (a.second == b.second && (a.third == b.third && a.number == b.number)))

-- the number of the first of these terms that has the row, the first of them being number n
abbrev pub first_from : ℕ → Key → List Term → Option ℕ
first_from n k [] = None
first_from n k (t ∷ ts) = if same_key k (key_of t) then Some n else first_from (n + 1) k ts

-- the table once a term was put, and the term's number: that of the first equal term, else its own, at the end
abbrev pub put_at : Option ℕ → Table → Term → Table × TermId
put_at (Some n) table t = (table, record { 0 = n })
put_at None table t = (with_term table t, record { 0 = length table.terms })

abbrev pub put_of : Table → Term → Table × TermId
put_of table t = put_at (first_from 0 (key_of t) table.terms) table t

-- the map finds each row at the first term that has it
abbrev pub Finds : HashMap Key ℕ (BuildHasherDefault FoldHasher) → List Term → Type 0
Finds numbers terms = (k : Key) → get same_key numbers k ≡ first_from 0 k terms

-- what a table keeps beside its cells and terms: the terms' widths, and where each row stands first
pub record IsKept (cells : List ℕ) (terms : List Term) (ws : List ℕ) (numbers : HashMap Key ℕ (BuildHasherDefault FoldHasher)) : Type 0 where
  pub table : IsTable (record { cells = cells; terms = terms })
  pub widths : ws ≡ widths_after cells [] terms
  pub few : length terms < 2 ^ 32
  pub finds : Finds numbers terms
