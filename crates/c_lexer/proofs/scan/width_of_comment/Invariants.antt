use Rattle.std.proofs.Common.{◌≡◌, drop, false}
use Rattle.c_lexer.specs.Scan.{comment_end}
use Rattle.c_lexer.proofs.scan.width_of_comment.Given as goal

abbrev pub invariant-loop-i : goal.invariant-loop-i
invariant-loop-i l = comment_end l.star l.i (drop l.i l.bytes) ≡ comment_end false 0 l.bytes
