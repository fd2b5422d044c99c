use Rattle.std.proofs.Common.{ℕ, ◌+◌, drop}
use Rattle.lv_outside.specs.Mem.{IsPlaceOf, HasNoName}
use Rattle.lv_outside.proofs.files.place_of_name.Given as goal

abbrev pub invariant-loop-i : goal.invariant-loop-i
invariant-loop-i l = record {
  found : (k : ℕ) → IsPlaceOf l.name (drop l.i l.files) k → IsPlaceOf l.name l.files (l.i + k);
  none : HasNoName l.name (drop l.i l.files) → HasNoName l.name l.files;
}
