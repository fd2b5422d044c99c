use Rattle.std.proofs.Common.{◌≡◌, drop, length}
use Rattle.resolution_log.specs.Codes.{AllBelow}
use Rattle.resolution_log.specs.Marks.{mark_all, note_all}
use Rattle.resolution_log.proofs.marks.mark_row.Given as goal

abbrev pub invariant-loop-k : goal.invariant-loop-k
invariant-loop-k l = record {
  below : AllBelow (length l.initial.stamps) (drop l.k-index l.row);
  marks : mark_all l.epoch l.but l.stamps (drop l.k-index l.row) ≡ mark_all l.epoch l.but l.initial.stamps l.row;
  notes : note_all l.epoch l.but l.stamps l.members.items (drop l.k-index l.row) ≡ note_all l.epoch l.but l.initial.stamps l.initial.members.items l.row;
}
