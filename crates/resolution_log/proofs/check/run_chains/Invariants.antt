use Rattle.std.proofs.Common.{ℕ, false}
use Rattle.resolution_log.specs.Verdict.{verdict_of}
use Rattle.resolution_log.proofs.RowLaws.{Checked}
use Rattle.resolution_log.proofs.check.run_chains.Given as goal

abbrev pub invariant-loop-i : goal.invariant-loop-i
invariant-loop-i l = Checked l.vars l.rows l.stamps l.i l.last l.chains (verdict_of l.clauses 0 false l.chains)
