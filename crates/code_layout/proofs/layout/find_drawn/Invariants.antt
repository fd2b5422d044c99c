use Rattle.std.proofs.Common.{◌≡◌, drop}
use Rattle.code_layout.specs.Layout.{drawn_in}
use Rattle.code_layout.proofs.layout.find_drawn.Given as goal

-- none of those so far
abbrev pub invariant-loop-each : goal.invariant-loop-each
invariant-loop-each l = drawn_in (drop l.each-index l.drawn) l.width ≡ drawn_in l.drawn l.width
