use Rattle.std.proofs.Common.{◌≡◌, drop, ◌++◌}
use Rattle.resolution_log.specs.Codes.{all_vars}
use Rattle.resolution_log.proofs.numbering.collect_vars.Given as goal

abbrev pub invariant-loop-number : goal.invariant-loop-number
invariant-loop-number l = l.vars.items ++ all_vars (drop l.number l.clauses) ≡ all_vars l.clauses
