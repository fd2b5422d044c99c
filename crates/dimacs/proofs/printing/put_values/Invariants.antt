use Rattle.std.proofs.Common.{◌≡◌, ◌++◌, List, drop}
use Rattle.std.specs.Prelude.{string_bytes}
use Rattle.prop.specs.Trues.{listed}
use Rattle.dimacs.specs.Dimacs.{value_lines}
use Rattle.dimacs.proofs.printing.put_values.Given as goal

abbrev pub invariant-loop-var : goal.invariant-loop-var
invariant-loop-var l = string_bytes l.lines ++ value_lines (listed l.values) (drop l.var-index l.vars) ≡ string_bytes l.initial.lines ++ value_lines (listed l.values) l.vars
