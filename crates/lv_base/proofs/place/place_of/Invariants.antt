use Rattle.std.proofs.Common.{◌≡◌, ◌≤◌, ◌+◌, take}
use Rattle.lv_base.specs.Place.{line_after, column_after}
use Rattle.lv_base.proofs.place.place_of.Given as goal

abbrev pub invariant-loop-byte : goal.invariant-loop-byte
invariant-loop-byte l = record {
  line : l.line ≡ line_after (take l.byte-index l.byte-items);
  column : l.column ≡ column_after (take l.byte-index l.byte-items);
  line_small : l.line ≤ l.byte-index + 1;
  column_small : l.column ≤ l.byte-index + 1;
}
