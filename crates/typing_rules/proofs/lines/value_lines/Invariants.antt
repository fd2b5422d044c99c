use Rattle.std.proofs.Common.{◌≡◌, take}
use Rattle.c_tree.specs.View.{parts_of}
use Rattle.first_broken.specs.Seen.{found_of}
use Rattle.type_scopes.specs.Seen.{env_of}
use Rattle.typing_rules.specs.Summed as s
use Rattle.typing_rules.proofs.lines.value_lines.Given as goal

-- the sum of those so far
abbrev pub invariant-loop-part : goal.invariant-loop-part
invariant-loop-part l = found_of l.all ≡ s.values_found (env_of l.env) l.model (parts_of (take l.part-index l.parts))
