-- What one term adds, from the literals of its operands and of the cells.
use Rattle.std.specs.Prelude.{ℕ, ◌≡◌, ◌≤◌, ◌<◌, ◌+◌, true, false, cond, List, [], ◌∷◌, ◌++◌, length, map, take, drop, zero, suc, Option, Some, None}
use Rattle.std.specs.Prelude.{ltb}
use Rattle.prop.specs.declared.Lit.{Lit}
use Rattle.prop.specs.Logic.{negated}
use Rattle.bit_gates.specs.declared.netlist.Def.{Def}
use Rattle.bit_gates.specs.declared.shifters.Shift.TheVariants.{Left, Logical, Arithmetic}
use Rattle.bit_gates.specs.Products.{Made, product_of}
use Rattle.bit_gates.specs.Quotients.{selected}
use Rattle.bit_gates.specs.Shifts.{shift_of, top_of}
use Rattle.bit_words.specs.Folding.{standing, folded_made}
use Rattle.bit_words.specs.Words.{given, copies_of, numeral_of, spelled_of, ands, xors}
use Rattle.bit_words.specs.Elements.{decoded, picked, AllLong}
use Rattle.bv_term.specs.declared.term.Term.{Term}
use Rattle.bv_term.specs.declared.term.Term.TheVariants.{Constant, Cell, Element, Add, Subtract, Multiply, Divide, Remainder, And, Or, Xor, Not, ShiftLeft, ShiftRight, ShiftSigned, Equal, Less, LessSigned, Select, ZeroExtend, SignExtend, Truncate, Bit}
use Rattle.bit_blast.specs.Done.{Known, lits_of, is_done}
use Rattle.bit_blast.specs.Gates.{add_word, subtract_word, divide_word, remainder_word, or_word, equal_word, less_word, extended_to}

-- a cell's literals, none past the end
abbrev pub cell_at : List (List Lit) → ℕ → List Lit
cell_at [] k = []
cell_at (c ∷ cs) zero = c
cell_at (c ∷ cs) (suc k) = cell_at cs k

-- as many zeros as the first of some cells has literals
abbrev pub no_cell : Lit → List (List Lit) → List Lit
no_cell one cs = copies_of (negated one) (length (cell_at cs 0))

-- the cell that an index names, or zeros: one cell for a known index, else a choice among all
abbrev pub element_of : Lit → ℕ → List (List Lit) → List Lit → Option ℕ → Made
element_of one n cs index (Some k) = given (cond (ltb k (length cs)) (cell_at cs k) (no_cell one cs))
element_of one n cs index None =
    let d = folded_made one n (decoded n one index (length cs)) in
    let p = folded_made one (n + length d.defs) (picked (n + length d.defs) d.outs cs (no_cell one cs)) in
    record { defs = d.defs ++ p.defs; outs = p.outs }

abbrev pub emission : Lit → List (List Lit) → (ℕ → List Lit) → ℕ → Term → Made
emission one cells ls n (Constant w v) = given (numeral_of one w v)
emission one cells ls n (Cell c) = given (cell_at cells c)
emission one cells ls n (Element first m i) =
    element_of one n (take m (drop first cells)) (ls i.0) (spelled_of one (ls i.0))
emission one cells ls n (Add i j) = folded_made one n (add_word one n (ls i.0) (ls j.0))
emission one cells ls n (Subtract i j) = folded_made one n (subtract_word one n (ls i.0) (ls j.0))
emission one cells ls n (Multiply i j) = folded_made one n (product_of n (ls i.0) (ls j.0))
emission one cells ls n (Divide i j) = folded_made one n (divide_word n (ls i.0) (ls j.0))
emission one cells ls n (Remainder i j) = folded_made one n (remainder_word n (ls i.0) (ls j.0))
emission one cells ls n (And i j) = folded_made one n (ands n (ls i.0) (ls j.0))
emission one cells ls n (Or i j) = folded_made one n (or_word n (ls i.0) (ls j.0))
emission one cells ls n (Xor i j) = folded_made one n (xors n (ls i.0) (ls j.0))
emission one cells ls n (Not i) = given (map negated (ls i.0))
emission one cells ls n (ShiftLeft i j) = folded_made one n (shift_of n Left (ls i.0) (ls j.0))
emission one cells ls n (ShiftRight i j) = folded_made one n (shift_of n Logical (ls i.0) (ls j.0))
emission one cells ls n (ShiftSigned i j) = folded_made one n (shift_of n Arithmetic (ls i.0) (ls j.0))
emission one cells ls n (Equal i j) = folded_made one n (equal_word n (ls i.0) (ls j.0))
emission one cells ls n (Less i j) = folded_made one n (less_word n false (ls i.0) (ls j.0))
emission one cells ls n (LessSigned i j) = folded_made one n (less_word n true (ls i.0) (ls j.0))
emission one cells ls n (Select i j k) = folded_made one n (selected n (standing (ls i.0) 0) (ls j.0) (ls k.0))
emission one cells ls n (ZeroExtend w i) = given (extended_to w (negated one) (ls i.0))
emission one cells ls n (SignExtend w i) = given (extended_to w (top_of (ls i.0)) (ls i.0))
emission one cells ls n (Truncate w i) = given (take w (ls i.0))
emission one cells ls n (Bit k i) = given (standing (ls i.0) k ∷ [])

-- both operands have literals, equally many
abbrev pub AreWords : List Lit → List Lit → Type 0
AreWords a b = (1 ≤ length a) × (length a ≡ length b)

-- the operands and cells of a term have the literals that it needs
abbrev pub IsReady : List (List Lit) → (ℕ → List Lit) → Term → Type 0
IsReady cells ls (Constant w v) = Unit {0}
IsReady cells ls (Cell c) = c < length cells
IsReady cells ls (Element first m i) =
    (1 ≤ m) × (first + m ≤ length cells) × (length (ls i.0) ≤ 128)
    × AllLong (length (cell_at (take m (drop first cells)) 0)) (take m (drop first cells))
IsReady cells ls (Add i j) = AreWords (ls i.0) (ls j.0)
IsReady cells ls (Subtract i j) = AreWords (ls i.0) (ls j.0)
IsReady cells ls (Multiply i j) = AreWords (ls i.0) (ls j.0)
IsReady cells ls (Divide i j) = AreWords (ls i.0) (ls j.0)
IsReady cells ls (Remainder i j) = AreWords (ls i.0) (ls j.0)
IsReady cells ls (And i j) = AreWords (ls i.0) (ls j.0)
IsReady cells ls (Or i j) = AreWords (ls i.0) (ls j.0)
IsReady cells ls (Xor i j) = AreWords (ls i.0) (ls j.0)
IsReady cells ls (Not i) = 1 ≤ length (ls i.0)
IsReady cells ls (ShiftLeft i j) = AreWords (ls i.0) (ls j.0)
IsReady cells ls (ShiftRight i j) = AreWords (ls i.0) (ls j.0)
IsReady cells ls (ShiftSigned i j) = AreWords (ls i.0) (ls j.0)
IsReady cells ls (Equal i j) = AreWords (ls i.0) (ls j.0)
IsReady cells ls (Less i j) = AreWords (ls i.0) (ls j.0)
IsReady cells ls (LessSigned i j) = AreWords (ls i.0) (ls j.0)
IsReady cells ls (Select i j k) = (1 ≤ length (ls i.0)) × AreWords (ls j.0) (ls k.0)
IsReady cells ls (ZeroExtend w i) = length (ls i.0) ≤ w
IsReady cells ls (SignExtend w i) = (1 ≤ length (ls i.0)) × (length (ls i.0) ≤ w)
IsReady cells ls (Truncate w i) = w ≤ length (ls i.0)
IsReady cells ls (Bit k i) = k < length (ls i.0)

-- definitions, and the terms that are done with them
pub record Emitted : Type 0 where
  pub defs : List Def
  pub done : List Known

-- the term with this number, some constant past the end
abbrev pub term_at : List Term → ℕ → Term
term_at [] k = Constant 1 0
term_at (t ∷ ts) zero = t
term_at (t ∷ ts) (suc k) = term_at ts k

-- terms in rising order, given from the highest down: the last is emitted first
abbrev pub emitted : Lit → List (List Lit) → List Term → ℕ → List Known → List ℕ → Emitted
emitted one cells ts n done [] = record { defs = []; done = done }
emitted one cells ts n done (k ∷ ks) =
    let r = emitted one cells ts n done ks in
    let m = emission one cells (lits_of r.done) (n + length r.defs) (term_at ts k) in
    record { defs = r.defs ++ m.defs; done = r.done ++ record { term = k; lits = m.outs } ∷ [] }

-- each of these terms is ready when its turn comes, and not done before
abbrev pub AllReady : Lit → List (List Lit) → List Term → ℕ → List Known → List ℕ → Type 0
AllReady one cells ts n done [] = Unit {0}
AllReady one cells ts n done (k ∷ ks) =
    AllReady one cells ts n done ks
    × IsReady cells (lits_of (emitted one cells ts n done ks).done) (term_at ts k)
    × (is_done (emitted one cells ts n done ks).done k ≡ false)
