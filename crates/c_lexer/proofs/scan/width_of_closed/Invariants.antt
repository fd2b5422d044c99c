use Rattle.std.proofs.Common.{◌≡◌, drop, false}
use Rattle.c_lexer.specs.Scan.{closed_at}
use Rattle.c_lexer.proofs.scan.width_of_closed.Given as goal

abbrev pub invariant-loop-i : goal.invariant-loop-i
invariant-loop-i l = closed_at l.quote l.escaped l.i (drop l.i l.bytes) ≡ closed_at l.quote false 0 l.bytes
