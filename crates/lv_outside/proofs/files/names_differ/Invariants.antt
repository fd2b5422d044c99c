use Rattle.std.proofs.Common.{drop}
use Rattle.lv_outside.specs.Mem.{NamesDiffer}
use Rattle.lv_outside.proofs.files.names_differ.Given as goal

abbrev pub invariant-loop-i : goal.invariant-loop-i
invariant-loop-i l = record {
  up : NamesDiffer (drop l.i l.files) → NamesDiffer l.files;
  down : NamesDiffer l.files → NamesDiffer (drop l.i l.files);
}
