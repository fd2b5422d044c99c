use Rattle.std.proofs.Common.{◌≡◌, length}
use Rattle.parse_machine.specs.Statements as sm
use Rattle.parse_stack.specs.View as v
use Rattle.c_parser.proofs.statements.extension_binds.Given as goal

abbrev pub invariant-offsets : goal.invariant-offsets
invariant-offsets l = sm.extension_binds l.rest (v.inner l.k) ≡ sm.extension_binds l.offsets (v.inner l.fn.k)

abbrev pub decreases-offsets : goal.decreases-offsets
decreases-offsets l = length l.rest
