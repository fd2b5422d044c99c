use Rattle.std.proofs.Common.{◌≡◌, vec_len}
use Rattle.parse_machine.specs.Expressions as ex
use Rattle.parse_stack.specs.View as v
use Rattle.parse_stack.proofs.stacks.fold.Given as goal

abbrev pub invariant-fold : goal.invariant-fold
invariant-fold l = ex.fold (v.inner l.k) l.level (v.part l.e) ≡ ex.fold (v.inner l.fn.k) l.level (v.part l.fn.e)

abbrev pub decreases-fold : goal.decreases-fold
decreases-fold l = vec_len l.k.frames
