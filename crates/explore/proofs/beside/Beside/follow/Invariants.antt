use Rattle.std.proofs.Common.{◌≡◌, length}
use Rattle.explore.specs.Standing.{AreBeside}
use Rattle.explore.proofs.beside.Beside.follow.Given as goal

abbrev pub invariant-loop-number : goal.invariant-loop-number
invariant-loop-number l = record {
  number : l.number ≡ length l.self.before.items;
  nodes : length l.self.last.items ≡ length l.initial.self.last.items;
  beside : AreBeside l.unwinding.vertices l.self.before.items l.self.last.items;
}
