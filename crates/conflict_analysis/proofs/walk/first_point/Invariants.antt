use Rattle.std.proofs.Common.{◌≡◌, ◌<◌, length}
use Rattle.conflict_analysis.specs.Walk.{Walking}
use Rattle.conflict_analysis.proofs.walk.first_point.Given as goal

abbrev pub invariant-walk : goal.invariant-walk
invariant-walk l = record {
  walking : Walking l.vars l.rows l.trail l.level l.conflict l.pairs l.notes.epoch l.notes.stamps.items l.notes.learnt.items l.notes.here l.at;
  some : 0 < l.notes.epoch;
  stamps : length l.notes.stamps.items ≡ length l.vars;
}

abbrev pub decreases-walk : goal.decreases-walk
decreases-walk l = l.at
