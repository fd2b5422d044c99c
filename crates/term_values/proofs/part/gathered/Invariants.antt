use Rattle.std.proofs.Common.{length, nat_eq}
use Rattle.std.specs.HashMap.{get}
use Rattle.term_values.proofs.Waiting.{Waits, work}
use Rattle.term_values.proofs.part.gathered.Given as goal

abbrev pub invariant-loop-k : goal.invariant-loop-k
invariant-loop-k l = Waits l.terms l.part l.fn.term l.waiting.items

abbrev pub decreases-loop-k : goal.decreases-loop-k
decreases-loop-k l = work (length l.terms.terms) (get nat_eq l.part.places) l.waiting.items
