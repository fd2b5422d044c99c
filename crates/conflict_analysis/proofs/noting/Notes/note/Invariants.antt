use Rattle.std.proofs.Common.{◌≡◌, ◌+◌, ◌≤◌, length, drop}
use Rattle.conflict_analysis.specs.Notes.{note_stamps, note_learnt, note_here}
use Rattle.conflict_analysis.proofs.noting.Notes.note.Given as goal

abbrev pub invariant-loop-code : goal.invariant-loop-code
invariant-loop-code l = record {
  stamps : note_stamps l.self.epoch l.but l.self.stamps.items (drop l.code-index l.row) ≡ note_stamps l.self.epoch l.but l.initial.self.stamps.items l.row;
  learnt : note_learnt l.self.epoch l.but l.level l.trail.levels.items l.self.stamps.items l.self.learnt.items (drop l.code-index l.row) ≡ note_learnt l.self.epoch l.but l.level l.trail.levels.items l.initial.self.stamps.items l.initial.self.learnt.items l.row;
  here' : note_here l.self.epoch l.but l.level l.trail.levels.items l.self.stamps.items l.self.here (drop l.code-index l.row) ≡ note_here l.self.epoch l.but l.level l.trail.levels.items l.initial.self.stamps.items l.initial.self.here l.row;
  epoch : l.self.epoch ≡ l.initial.self.epoch;
  long : length l.self.stamps.items ≡ length l.trail.levels.items;
  few : l.self.here ≤ 134217728 + l.code-index;
}
