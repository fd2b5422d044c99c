-- Operations that set a cell and that read it, and cells that are read before they are set.
use Rattle.std.specs.Prelude.{ℕ, ◌+◌, ◌<◌, ◌≤◌, ◌≡◌, ◌⊎◌, List, [], ◌∷◌, ◌++◌, All, Contains, Some, slice_get}
use Rattle.bv_term.specs.declared.term.TermId.{TermId}
use Rattle.bv_term.specs.declared.term.Term.{Term}
use Rattle.bv_term.specs.declared.term.Term.TheVariants.{Constant, Cell, Element, Add, Subtract, Multiply, Divide, Remainder, And, Or, Xor, Not, ShiftLeft, ShiftRight, ShiftSigned, Equal, Less, LessSigned, Select, ZeroExtend, SignExtend, Truncate, Bit}
use Rattle.bv_term.specs.WellFormed.{Table}
use Rattle.c_graph.specs.declared.graph.Operation.{Operation}
use Rattle.c_graph.specs.declared.graph.Operation.TheVariants.{Assume, Set, SetAt, Draw}
use Rattle.c_graph.specs.declared.graph.EdgeId.{EdgeId}
use Rattle.c_graph.specs.Shape.{Flow}
use Rattle.needed_cells.specs.Reads.{operations_of}

-- the operands of a term
abbrev pub operands_of : Term → List ℕ
operands_of (Constant w v) = []
operands_of (Cell c) = []
operands_of (Element first n i) = i.0 ∷ []
operands_of (Add i j) = i.0 ∷ j.0 ∷ []
operands_of (Subtract i j) = i.0 ∷ j.0 ∷ []
operands_of (Multiply i j) = i.0 ∷ j.0 ∷ []
operands_of (Divide i j) = i.0 ∷ j.0 ∷ []
operands_of (Remainder i j) = i.0 ∷ j.0 ∷ []
operands_of (And i j) = i.0 ∷ j.0 ∷ []
operands_of (Or i j) = i.0 ∷ j.0 ∷ []
operands_of (Xor i j) = i.0 ∷ j.0 ∷ []
operands_of (Not i) = i.0 ∷ []
operands_of (ShiftLeft i j) = i.0 ∷ j.0 ∷ []
operands_of (ShiftRight i j) = i.0 ∷ j.0 ∷ []
operands_of (ShiftSigned i j) = i.0 ∷ j.0 ∷ []
operands_of (Equal i j) = i.0 ∷ j.0 ∷ []
operands_of (Less i j) = i.0 ∷ j.0 ∷ []
operands_of (LessSigned i j) = i.0 ∷ j.0 ∷ []
operands_of (Select i j k) = i.0 ∷ j.0 ∷ k.0 ∷ []
operands_of (ZeroExtend w i) = i.0 ∷ []
operands_of (SignExtend w i) = i.0 ∷ []
operands_of (Truncate w i) = i.0 ∷ []
operands_of (Bit k i) = i.0 ∷ []

-- the term of a number names the cell: it is the cell, or an element of cells that have it, or one of its operands names it
pub data Names (table : Table) (c : ℕ) : ℕ → Type 0 where
  is_cell : {t : ℕ} → slice_get table.terms t ≡ Some (Cell c) → Names table c t
  is_element : {t : ℕ} (first n : ℕ) (i : TermId) → slice_get table.terms t ≡ Some (Element first n i) → first ≤ c → c < first + n → Names table c t
  by_operand : {t : ℕ} (u : Term) (k : ℕ) → slice_get table.terms t ≡ Some u → Contains (operands_of u) k → Names table c k → Names table c t

-- an operation sets the cell, whatever was there. One that stores at an index sets none: at each other index the cell keeps its value
abbrev pub Sets : Operation → ℕ → Type 0
Sets (Assume t) c = ⊥
Sets (Set k t) c = k ≡ c
Sets (SetAt first n i t) c = ⊥
Sets (Draw k signed) c = k ≡ c

-- an operation reads the cell: one of its terms names it, or it stores among cells that have it, which keeps its value at each other index
abbrev pub Reads : Table → Operation → ℕ → Type 0
Reads table (Assume t) c = Names table c t.0
Reads table (Set k t) c = Names table c t.0
Reads table (SetAt first n i t) c = Names table c i.0 ⊎ (Names table c t.0 ⊎ ((first ≤ c) × (c < first + n)))
Reads table (Draw k signed) c = ⊥

abbrev pub Unset : ℕ → List Operation → Type 0
Unset c ops = All (λ o. Sets o c → ⊥) ops

-- one of the operations reads the cell, and none before it sets it
pub record IsRead (table : Table) (ops : List Operation) (c : ℕ) : Type 0 where
  pub front : List Operation
  pub reader : Operation
  pub back : List Operation
  pub are : ops ≡ front ++ reader ∷ back
  pub unset : Unset c front
  pub reads : Reads table reader c

-- the operations of edges in order
abbrev pub operations_along : Flow → List EdgeId → List Operation
operations_along g [] = []
operations_along g (e ∷ es) = operations_of g.edges e.0 ++ operations_along g es
