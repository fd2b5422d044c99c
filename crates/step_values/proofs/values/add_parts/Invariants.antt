use Rattle.std.proofs.Common.{◌≡◌, ◌++◌, take}
use Rattle.c_typed.specs.View.{values_of}
use Rattle.c_typed.specs.Rules as r
use Rattle.step_values.specs.Seen.{values}
use Rattle.step_values.proofs.values.add_parts.Given as goal

-- those so far stand behind those that were there
abbrev pub invariant-loop-part : goal.invariant-loop-part
invariant-loop-part l = values l.found.items ≡ values l.initial.found.items ++ r.all_parts (values_of (take l.part-index l.parts))
