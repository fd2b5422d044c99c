-- Terms of a table by their widths and their values in a store.
use Rattle.std.specs.Prelude.{ℕ, ◌<◌, ◌≡◌, List, [], ◌∷◌, length, slice_index}
use Rattle.lv_base.specs.Integers.{width_of}
use Rattle.bv_term.specs.declared.term.TermId.{TermId}
use Rattle.bv_term.specs.declared.term.Term.{Term}
use Rattle.bv_term.specs.WellFormed.{Table, FitsTable, width_in, widths}
use Rattle.bv_term.specs.Values.{value, values, value_in}
use Rattle.bv_term.specs.Laws.{Extends}
use Rattle.c_terms.specs.declared.words.Words.{Words}
use Rattle.c_terms.specs.declared.failing.Fails.{Fails}
use Rattle.c_terms.specs.declared.failing.Tests.{Tests}
use Rattle.c_terms.specs.declared.failing.Tests.TheVariants.{None, One, Two}
use Rattle.c_terms.specs.declared.arithmetic.Operands.{Operands}
use Rattle.c_terms.specs.Operations.{Failure}

-- the term is there, so wide, and has this value in the store
pub record Shows (table : Table) (store : List ℕ) (t : TermId) (bits number : ℕ) : Type 0 where
  pub there : t.0 < length table.terms
  pub width : slice_index (widths table) t.0 ≡ bits
  pub told : value table store t ≡ number

-- a term over the table is well formed, and would be so wide and have this value in the store
pub record Gives (table : Table) (store : List ℕ) (u : Term) (bits number : ℕ) : Type 0 where
  pub fits : FitsTable table u
  pub width : width_in table.cells (widths table) u ≡ bits
  pub told : value_in store (widths table) (values table store) u ≡ number

-- the table grew at its end, and what was put is well formed
pub record Grows (old new : Words) : Type 0 where
  pub extends : Extends old.terms new.terms
  pub sound : new.is_sound ≡ old.is_sound

-- the table grew, and the term has this value there
pub record Puts (old new : Words) (store : List ℕ) (t : TermId) (bits number : ℕ) : Type 0 where
  pub grows : Grows old new
  pub shows : Shows new.terms store t bits number

-- the operands are of a kind and a model, their low bits have the first two values, and all of the second has the third
pub record IsPair (table : Table) (store : List ℕ) (o : Operands) (left right whole : ℕ) : Type 0 where
  pub left_shows : Shows table store o.left (width_of o.kind o.model) left
  pub right_shows : Shows table store o.right (width_of o.kind o.model) right
  pub whole_shows : Shows table store o.whole 64 whole

-- the test's term says whether the error is met
pub record IsFails (table : Table) (store : List ℕ) (f : Fails) (x : Failure) : Type 0 where
  pub kind : f.kind ≡ x.kind
  pub shows : Shows table store f.when 1 x.when

-- the tests are these, in their order
abbrev pub AreFails : Table → List ℕ → Tests → List Failure → Type 0
AreFails table store None [] = Unit {0}
AreFails table store (One f) (x ∷ []) = IsFails table store f x
AreFails table store (Two f g) (x ∷ y ∷ []) = IsFails table store f x × IsFails table store g y
AreFails table store _ _ = ⊥

-- the table grew, and these are the tests
pub record Finds (old new : Words) (store : List ℕ) (r : Tests) (xs : List Failure) : Type 0 where
  pub grows : Grows old new
  pub fails : AreFails new.terms store r xs
