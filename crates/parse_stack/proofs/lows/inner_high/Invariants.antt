use Rattle.std.proofs.Common.{◌≡◌, length}
use Rattle.parse_machine.specs.Heights as hi
use Rattle.parse_stack.specs.View as v
use Rattle.parse_stack.proofs.lows.inner_high.Given as goal

abbrev pub invariant-frames : goal.invariant-frames
invariant-frames l = hi.high (v.inner_behind (v.base l.k.base.value) l.frames) l.h ≡ hi.high (v.inner l.k) l.fn.h

abbrev pub decreases-frames : goal.decreases-frames
decreases-frames l = length l.frames
