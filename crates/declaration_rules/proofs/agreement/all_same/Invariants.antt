use Rattle.std.proofs.Common.{◌≡◌, take}
use Rattle.declaration_rules.specs.Twice.{same_kinds}
use Rattle.declaration_rules.proofs.agreement.all_same.Given as goal

-- those so far are the same
abbrev pub invariant-loop-i : goal.invariant-loop-i
invariant-loop-i l = l.same ≡ same_kinds (take l.i l.xs) (take l.i l.ys)
