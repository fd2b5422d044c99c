use Rattle.std.proofs.Common.{◌≡◌, ◌+◌, ◌≤◌, drop}
use Rattle.conflict_analysis.specs.Notes.{counted}
use Rattle.conflict_analysis.specs.Minimizing.{is_implied}
use Rattle.conflict_analysis.proofs.minimizing.implied_count.Given as goal

abbrev pub invariant-loop-code : goal.invariant-loop-code
invariant-loop-code l = record {
  count : l.count + counted (is_implied l.epoch l.stamps l.rows l.reasons l.uip) (drop l.code-index l.clause) ≡ counted (is_implied l.epoch l.stamps l.rows l.reasons l.uip) l.clause;
  few : l.count ≤ l.code-index;
}
