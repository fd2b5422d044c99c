use Rattle.std.proofs.Common.{◌≡◌, vec_len}
use Rattle.c_tree.specs.View.{statement}
use Rattle.parse_machine.specs.Statements as sm
use Rattle.parse_stack.specs.View as v
use Rattle.c_parser.proofs.settling.settle.Given as goal

abbrev pub invariant-outward : goal.invariant-outward
invariant-outward l = sm.settle l.names (v.outer l.o) (statement l.s.value) ≡ sm.settle l.fn.names (v.outer l.fn.o) (statement l.fn.s.value)

abbrev pub decreases-outward : goal.decreases-outward
decreases-outward l = vec_len l.o.frames
