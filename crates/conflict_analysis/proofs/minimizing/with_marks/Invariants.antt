use Rattle.std.proofs.Common.{◌≡◌, ◌++◌, drop}
use Rattle.conflict_analysis.specs.Minimizing.{kept}
use Rattle.conflict_analysis.proofs.minimizing.with_marks.Given as goal

abbrev pub invariant-loop-code : goal.invariant-loop-code
invariant-loop-code l = l.out.items ++ kept l.epoch l.stamps (drop l.code-index l.clause) ≡ kept l.epoch l.stamps l.clause
