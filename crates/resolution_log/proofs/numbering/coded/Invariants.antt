use Rattle.std.proofs.Common.{◌≡◌, drop, ◌++◌}
use Rattle.resolution_log.specs.Codes.{all_codes, CoversAll}
use Rattle.resolution_log.proofs.numbering.coded.Given as goal

abbrev pub invariant-loop-number : goal.invariant-loop-number
invariant-loop-number l = (l.rows ++ all_codes l.vars (drop l.number l.clauses) ≡ all_codes l.vars l.clauses) × CoversAll l.vars (drop l.number l.clauses)
