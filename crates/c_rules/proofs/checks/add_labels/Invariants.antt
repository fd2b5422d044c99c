use Rattle.std.proofs.Common.{◌≡◌, ◌++◌, take}
use Rattle.jump_rules.specs.Seen.{jumps}
use Rattle.c_rules.specs.Examined.{labels_at}
use Rattle.c_rules.proofs.checks.add_labels.Given as goal

-- those so far stand behind those that were there
abbrev pub invariant-loop-label : goal.invariant-loop-label
invariant-loop-label l = l.all.items ≡ l.initial.all.items ++ labels_at l.function (jumps (take l.label-index l.labels))
