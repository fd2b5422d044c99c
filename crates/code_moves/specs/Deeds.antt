-- What operations do, by the meaning of their terms.
use Rattle.std.specs.Prelude.{ℕ, ◌≡◌, Bool, List, [], ◌∷◌}
use Rattle.bv_term.specs.declared.term.TermId.{TermId}
use Rattle.bv_term.specs.WellFormed.{Table}
use Rattle.c_graph.specs.declared.graph.Operation.{Operation}
use Rattle.c_graph.specs.declared.graph.Operation.TheVariants.{Set, SetAt, Draw}
use Rattle.c_graph.specs.Shape.{OperationFits}
use Rattle.c_terms.specs.declared.words.Words.{Words}
use Rattle.c_terms.specs.declared.failing.Tests.{Tests}
use Rattle.c_terms.specs.Operations.{Failure}
use Rattle.c_terms.specs.Shown.{Shows, Grows, AreFails}

-- A cell gets a value of the store; an element of so many cells gets one where the index, a value of the store, is there; a cell
-- gets the next input of its signed or unsigned range.
pub data Deed : Type 0 where
  Sets : (cell : ℕ) → (value : List ℕ → ℕ) → Deed
  SetsAt : (first count : ℕ) → (index value : List ℕ → ℕ) → Deed
  Draws : (cell : ℕ) → (signed : Bool) → Deed

-- in each store the term has this value
abbrev pub Tells : Table → TermId → ℕ → (List ℕ → ℕ) → Type 0
Tells table t bits f = (store : List ℕ) → Shows table store t bits (f store)

abbrev pub Means : Table → TermId → (List ℕ → ℕ) → Type 0
Means table t f = (bits : ℕ) × Tells table t bits f

-- the operation does this, and its cells and terms are there and have the widths that it asks for
abbrev pub IsDeed : Table → Operation → Deed → Type 0
IsDeed table (Set c t) (Sets d f) = (c ≡ d) × Means table t f × OperationFits table (Set c t)
IsDeed table (SetAt c n i t) (SetsAt d m h f) = (c ≡ d) × (n ≡ m) × Means table i h × Means table t f × OperationFits table (SetAt c n i t)
IsDeed table (Draw c signed) (Draws d s) = (c ≡ d) × (signed ≡ s) × OperationFits table (Draw c signed)
IsDeed table _ _ = ⊥

-- one after the other
abbrev pub AreDeeds : Table → List Operation → List Deed → Type 0
AreDeeds table [] [] = Unit {0}
AreDeeds table (op ∷ ops) (d ∷ ds) = IsDeed table op d × AreDeeds table ops ds
AreDeeds table _ _ = ⊥

-- the table grew, and the operations do this
pub record Does (old new : Words) (ops : List Operation) (deeds : List Deed) : Type 0 where
  pub grows : Grows old new
  pub does : AreDeeds new.terms ops deeds

-- in each store the tests are these
abbrev pub AreTests : Table → Tests → (List ℕ → List Failure) → Type 0
AreTests table tests xs = (store : List ℕ) → AreFails table store tests (xs store)
