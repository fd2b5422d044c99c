use Rattle.std.proofs.Common.{◌≡◌, [], drop}
use Rattle.code_layout.specs.Layout.{widths_behind}
use Rattle.code_layout.proofs.layout.drawn_widths.Given as goal

-- the widths so far and the rest are the whole
abbrev pub invariant-loop-instruction : goal.invariant-loop-instruction
invariant-loop-instruction l = widths_behind l.model l.widths.items (drop l.instruction-index l.code) ≡ widths_behind l.model [] l.code
