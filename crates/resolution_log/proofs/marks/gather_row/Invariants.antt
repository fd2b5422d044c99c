use Rattle.std.proofs.Common.{◌≡◌, ◌++◌, drop, length}
use Rattle.resolution_log.specs.Codes.{AllBelow}
use Rattle.resolution_log.specs.Marks.{gather, gathered}
use Rattle.resolution_log.proofs.marks.gather_row.Given as goal

abbrev pub invariant-loop-k : goal.invariant-loop-k
invariant-loop-k l = record {
  below : AllBelow (length l.initial.stamps) (drop l.k-index l.members);
  row : l.row.items ++ gather l.epoch l.stamps (drop l.k-index l.members) ≡ l.initial.row.items ++ gather l.epoch l.initial.stamps l.members;
  marks : gathered l.epoch l.stamps (drop l.k-index l.members) ≡ gathered l.epoch l.initial.stamps l.members;
}
