use Rattle.std.proofs.Common.{◌≡◌, take}
use Rattle.cert_check.specs.Answers.{AreBits, numbered}
use Rattle.cert_check.proofs.map.formulas_of.Given as goal

abbrev pub invariant-loop-node : goal.invariant-loop-node
invariant-loop-node l = record {
  numbered : l.formulas.items ≡ numbered (take l.node l.numbers);
  bits : AreBits l.table l.formulas.items;
}
