-- Terms of one bit that were put.
use Rattle.std.proofs.Common.{ℕ, Bool, List, Result, Ok, Err}
use Rattle.std.specs.Prelude.{IfOk}
use Rattle.bv_term.specs.declared.term.TermId.{TermId}
use Rattle.bv_term.specs.WellFormed.{Table}
use Rattle.formula_diagrams.specs.Writings.{IsOneBit, IsTruth}

pub bits-of-truth : {E : Type 0} (r : Result TermId E) (b : Table) (f : List ℕ → Bool) → IfOk r (λ t. IsTruth b t f) → IfOk r (IsOneBit b)
bits-of-truth (Ok t) b f h = h.bit
bits-of-truth (Err e) b f h = tt
