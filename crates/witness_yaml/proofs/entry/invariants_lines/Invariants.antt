use Rattle.std.proofs.Common.{◌≡◌, ◌++◌, drop}
use Rattle.witness_yaml.specs.Texts.{invariants_text}
use Rattle.witness_yaml.proofs.entry.invariants_lines.Given as goal

abbrev pub invariant-loop-invariant : goal.invariant-loop-invariant
invariant-loop-invariant l = l.text.items ++ invariants_text l.name (drop l.invariant-index l.invariants) ≡ invariants_text l.name l.invariants
