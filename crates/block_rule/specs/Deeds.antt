-- What edges do, by what their terms are worth in a store, and the code of a block: deeds, branches, and where it ends.
use Rattle.std.specs.Prelude.{ℕ, ◌<◌, ◌≡◌, ◌==◌, ◌⊎◌, Bool, not, List, [], ◌∷◌, ◌++◌, slice_get, slice_set, Option, None, Some, if◌then◌else◌}
use Rattle.bv_term.specs.declared.term.TermId.{TermId}
use Rattle.bv_term.specs.WellFormed.{Table}
use Rattle.bv_term.specs.Values.{value}
use Rattle.c_graph.specs.declared.graph.Operation.{Operation}
use Rattle.c_graph.specs.declared.graph.Operation.TheVariants.{Assume, Set, SetAt, Draw}
use Rattle.c_graph.specs.declared.graph.Edge.{Edge}
use Rattle.c_graph.specs.Shape.{Flow}
use Rattle.c_graph.specs.Steps.{IsWhole, Moment, moment, drawn, stored_at}

-- A deed goes on where a test of the store holds; a cell gets a value of the store; an element of so many cells gets one where the
-- index, a value of the store, is there; a cell gets the next input of its signed or unsigned range.
pub data Deed : Type 0 where
  Tests : (test : List ℕ → Bool) → Deed
  Sets : (cell : ℕ) → (value : List ℕ → ℕ) → Deed
  SetsAt : (first count : ℕ) → (index value : List ℕ → ℕ) → Deed
  Draws : (cell : ℕ) → (signed : Bool) → Deed

-- what a deed makes of a moment, nothing where it does not go on; the table has the widths of the cells
abbrev pub did : Table → Deed → Moment → Option Moment
did table (Tests p) m = if p m.store then Some m else None
did table (Sets c f) m = Some (moment (slice_set m.store c (f m.store)) m.inputs)
did table (SetsAt first n i f) m = Some (moment (stored_at m.store first n (i m.store) (f m.store)) m.inputs)
did table (Draws c signed) m = drawn table c signed m.store m.inputs

abbrev pub did_on : Table → Deed → Option Moment → Option Moment
did_on table d None = None
did_on table d (Some m) = did table d m

-- deeds in order
abbrev pub did_all : Table → List Deed → Option Moment → Option Moment
did_all table [] r = r
did_all table (d ∷ ds) r = did_all table ds (did_on table d r)

-- in each store of the table's widths the term has this value
abbrev pub Tells : Table → TermId → (List ℕ → ℕ) → Type 0
Tells table t f = (store : List ℕ) → IsWhole table.cells store → value table store t ≡ f store

-- in each store of the table's widths the term is 1 where the test holds
abbrev pub TellsTest : Table → TermId → (List ℕ → Bool) → Type 0
TellsTest table t p = (store : List ℕ) → IsWhole table.cells store → (value table store t == 1) ≡ p store

abbrev pub IsDeed : Table → Operation → Deed → Type 0
IsDeed table (Assume t) (Tests p) = TellsTest table t p
IsDeed table (Set c t) (Sets d f) = (c ≡ d) × Tells table t f
IsDeed table (SetAt c n i t) (SetsAt d m h f) = (c ≡ d) × (n ≡ m) × Tells table i h × Tells table t f
IsDeed table (Draw c signed) (Draws d s) = (c ≡ d) × (signed ≡ s)
IsDeed table _ _ = ⊥

-- one after the other
abbrev pub AreDeeds : Table → List Operation → List Deed → Type 0
AreDeeds table [] [] = Unit {0}
AreDeeds table (op ∷ ops) (d ∷ ds) = IsDeed table op d × AreDeeds table ops ds
AreDeeds table _ _ = ⊥

-- The code of a block: nothing leads on; the block's plan breaks the rule; it ends at a place; a deed, and then more; a branch.
pub data Code : Type 0 where
  Stops : Code
  Refused : Code
  Ends : (to : ℕ) → Code
  Does : (deed : Deed) → (rest : Code) → Code
  Branches : (test : List ℕ → Bool) → (one other : Code) → Code

-- where a code ends from a moment, and with which
abbrev pub ran : Table → Code → Option Moment → Option (ℕ × Moment)
ran table Stops r = None
ran table Refused r = None
ran table (Ends to) None = None
ran table (Ends to) (Some m) = Some (to, m)
ran table (Does d c) r = ran table c (did_on table d r)
ran table (Branches p c e) None = None
ran table (Branches p c e) (Some m) = if p m.store then ran table c (Some m) else ran table e (Some m)

-- an edge of the graph leads from a node to a node and does this
abbrev pub Leading : Flow → ℕ → List Deed → ℕ → Type 0
Leading h v ds w =
    (k : ℕ) × ((e : Edge) × (slice_get h.edges k ≡ Some e) × (e.from.0 ≡ v) × (e.to.0 ≡ w) × AreDeeds h.terms e.ops ds)

-- a node at which this was done: the same where there was nothing to do, or one behind an edge
abbrev pub Reaches : Flow → ℕ → List Deed → ℕ → Type 0
Reaches h v ds w = ((ds ≡ []) × (v ≡ w)) ⊎ Leading h v ds w

-- the graph has the code behind these deeds from a node
abbrev pub Has : Flow → ℕ → List Deed → Code → Type 0
Has h v ds Stops = Unit {0}
Has h v ds Refused = ⊥
Has h v ds (Ends to) = Leading h v ds to
Has h v ds (Does d c) = Has h v (ds ++ d ∷ []) c
Has h v ds (Branches p c e) =
    (w : ℕ) × Reaches h v ds w × Has h w (Tests p ∷ []) c × Has h w (Tests (λ s. not (p s)) ∷ []) e

-- the cell that is set is one of so many
abbrev pub SetsWithin : ℕ → Deed → Type 0
SetsWithin many (Tests p) = Unit {0}
SetsWithin many (Sets c f) = c < many
SetsWithin many (SetsAt first n i f) = Unit {0}
SetsWithin many (Draws c signed) = Unit {0}

-- no plan is broken, and the cells are there
abbrev pub Sound : ℕ → Code → Type 0
Sound many Stops = Unit {0}
Sound many Refused = ⊥
Sound many (Ends to) = Unit {0}
Sound many (Does d c) = SetsWithin many d × Sound many c
Sound many (Branches p c e) = Sound many c × Sound many e
