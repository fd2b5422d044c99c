use Rattle.std.proofs.Common.{◌≡◌, drop}
use Rattle.c_lexer.specs.Constants.{value_from}
use Rattle.c_lexer.proofs.constant.value_of.Given as goal

abbrev pub invariant-loop-byte : goal.invariant-loop-byte
invariant-loop-byte l = value_from l.base l.value (drop l.byte-index l.digits) ≡ value_from l.base 0 l.digits
