use Rattle.std.proofs.Common.{◌≡◌, drop, ◌++◌}
use Rattle.resolution_log.specs.Codes.{vars_of}
use Rattle.resolution_log.proofs.numbering.add_vars.Given as goal

abbrev pub invariant-loop-l : goal.invariant-loop-l
invariant-loop-l l = l.vars.items ++ vars_of (drop l.l-index l.clause) ≡ l.initial.vars.items ++ vars_of l.clause
