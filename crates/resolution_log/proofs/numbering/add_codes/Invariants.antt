use Rattle.std.proofs.Common.{◌≡◌, drop, ◌++◌}
use Rattle.resolution_log.specs.Codes.{codes_of, Covers}
use Rattle.resolution_log.proofs.numbering.add_codes.Given as goal

abbrev pub invariant-loop-l : goal.invariant-loop-l
invariant-loop-l l = (l.row.items ++ codes_of l.vars (drop l.l-index l.clause) ≡ l.initial.row.items ++ codes_of l.vars l.clause) × Covers l.vars (drop l.l-index l.clause)
