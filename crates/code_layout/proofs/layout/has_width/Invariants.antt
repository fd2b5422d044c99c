use Rattle.std.proofs.Common.{◌≡◌, drop}
use Rattle.code_layout.specs.Layout.{has_width}
use Rattle.code_layout.proofs.layout.has_width.Given as goal

-- none of those so far
abbrev pub invariant-loop-width : goal.invariant-loop-width
invariant-loop-width l = has_width (drop l.width-index l.widths) l.bits ≡ has_width l.widths l.bits
