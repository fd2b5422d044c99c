use Rattle.std.proofs.Common.{take}
use Rattle.effect_rules.specs.Touched.{Gains}
use Rattle.effect_rules.proofs.touched.add_all.Given as goal

-- those so far are in the set
abbrev pub invariant-loop-object : goal.invariant-loop-object
invariant-loop-object l = Gains l.initial.set.keys (take l.object-index l.objects) l.set.keys
