use Rattle.std.proofs.Common.{◌≡◌, ◌<◌, ℕ, get_or}
use Rattle.bv_term.specs.declared.term.TermId.{TermId}
use Rattle.loop_journey.proofs.journey.meets.Given as goal

abbrev pub invariant-loop-term : goal.invariant-loop-term
invariant-loop-term l = (k : ℕ) (d : TermId) → k < l.term-index → get_or l.values (get_or l.label k d).0 0 ≡ 1
