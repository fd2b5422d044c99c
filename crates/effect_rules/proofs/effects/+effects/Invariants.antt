use Rattle.std.proofs.Common.{◌≡◌, take}
use Rattle.c_typed.specs.View.{values_of}
use Rattle.effect_rules.specs.Effects as e
use Rattle.effect_rules.specs.Seen.{effects_of}
use Rattle.effect_rules.specs.Touched.{Same}
use Rattle.effect_rules.proofs.effects.+effects.Given as goal

-- the effects of those so far
abbrev pub invariant-list_effects-loop-value : goal.invariant-list_effects-loop-value
invariant-list_effects-loop-value l = effects_of l.all ≡ e.list_effects (values_of (take l.value-index l.values))

-- and whether two of those so far clash, with the sets of their objects
abbrev pub invariant-argument_effects-loop-value : goal.invariant-argument_effects-loop-value
invariant-argument_effects-loop-value l = record {
  all : effects_of l.all ≡ e.list_effects (values_of (take l.value-index l.values));
  test : l.test ≡ e.arguments_clash (values_of (take l.value-index l.values));
  writes : Same l.touched.written.keys (effects_of l.all).writes;
  reads : Same l.touched.read.keys (effects_of l.all).reads;
}
