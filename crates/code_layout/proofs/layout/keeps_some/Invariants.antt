use Rattle.std.proofs.Common.{◌≡◌, drop}
use Rattle.code_layout.specs.Layout.{keeps_some}
use Rattle.code_layout.proofs.layout.keeps_some.Given as goal

-- none of those so far
abbrev pub invariant-loop-instruction : goal.invariant-loop-instruction
invariant-loop-instruction l = keeps_some l.objects (drop l.instruction-index l.code) ≡ keeps_some l.objects l.code
