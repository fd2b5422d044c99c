use Rattle.std.proofs.Common.{◌≡◌, length}
use Rattle.jump_rules.specs.Names.{IsLast, AreBefore, names_of}
use Rattle.jump_rules.specs.Seen.{jumps}
use Rattle.jump_rules.proofs.names.name_all.Given as goal

-- the labels so far
abbrev pub invariant-loop-place : goal.invariant-loop-place
invariant-loop-place l = record {
  labels : l.named.labels.now ≡ l.labels;
  last : IsLast (names_of (jumps l.labels)) l.place l.named.last;
  count : length l.named.before.items ≡ l.place;
  before : AreBefore (names_of (jumps l.labels)) l.place l.named.before.items;
}
