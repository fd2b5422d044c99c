use Rattle.std.proofs.Common.{◌≡◌, ◌+◌, drop}
use Rattle.c_lexer.specs.Scan.{number_from}
use Rattle.c_lexer.proofs.scan.width_of_number.Given as goal

abbrev pub invariant-loop-i : goal.invariant-loop-i
invariant-loop-i l = number_from (l.i + 1) l.last (drop l.i l.bytes) ≡ number_from 1 l.before l.bytes
