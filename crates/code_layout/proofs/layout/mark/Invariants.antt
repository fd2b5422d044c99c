use Rattle.std.proofs.Common.{◌≡◌}
use Rattle.code_layout.specs.Reading.{marked}
use Rattle.code_layout.proofs.layout.mark.Given as goal

-- those so far
abbrev pub invariant-loop-number : goal.invariant-loop-number
invariant-loop-number l = l.read.items ≡ marked l.initial.read.items l.span.first l.number
