use Rattle.std.proofs.Common.{◌≡◌, length}
use Rattle.parse_machine.specs.Making as mk
use Rattle.parse_stack.specs.View as v
use Rattle.c_parser.proofs.statements.extension_words.Given as goal

abbrev pub invariant-offsets : goal.invariant-offsets
invariant-offsets l = mk.extension_words l.rest (v.spoken l.s) ≡ mk.extension_words l.offsets mk.unspoken

abbrev pub decreases-offsets : goal.decreases-offsets
decreases-offsets l = length l.rest
