use Rattle.std.proofs.Common.{◌<◌, ℕ, get_or}
use Rattle.std.specs.Prelude.{Contains}
use Rattle.bv_term.specs.declared.term.TermId.{TermId}
use Rattle.loop_journey.proofs.journey.has_all.Given as goal

abbrev pub invariant-loop-term : goal.invariant-loop-term
invariant-loop-term l = (k : ℕ) (d : TermId) → k < l.term-index → Contains l.label (get_or l.terms k d)
