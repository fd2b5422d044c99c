use Rattle.std.proofs.Common.{◌≡◌, ◌<◌, ℕ, true, Some, slice_get, take}
use Rattle.bv_term.specs.declared.term.Term.{Term}
use Rattle.walk_states.specs.Known.{plan_of}
use Rattle.plan_tests.specs.Made as made
use Rattle.plan_tests.specs.Passes.{all_at}
use Rattle.plan_tests.specs.Reads.{IsRead}
use Rattle.plan_tests.proofs.reads.are_reads.Given as goal

abbrev pub invariant-loop-number : goal.invariant-loop-number
invariant-loop-number l =
    ((k : ℕ) (u : Term) → k < l.number → slice_get l.terms.terms k ≡ Some u → IsRead (plan_of l.known) k u)
    × (all_at (made.is_read l.known) 0 (take l.number l.terms.terms) ≡ true)
