use Rattle.std.proofs.Common.{◌≡◌, ◌++◌, drop}
use Rattle.witness_yaml.specs.Texts.{escaped}
use Rattle.witness_yaml.proofs.piece.escape.Given as goal

abbrev pub invariant-loop-byte : goal.invariant-loop-byte
invariant-loop-byte l = l.text.items ++ escaped (drop l.byte-index l.name) ≡ escaped l.name
