use Rattle.std.proofs.Common.{drop, ◌≡◌}
use Rattle.lv_outside.specs.Mem.{file_of}
use Rattle.lv_outside.proofs.files.file_named.Given as goal

abbrev pub invariant-loop-entry : goal.invariant-loop-entry
invariant-loop-entry l = file_of (drop l.entry-index l.files) l.name ≡ file_of l.files l.name
