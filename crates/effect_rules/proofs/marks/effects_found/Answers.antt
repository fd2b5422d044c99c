use Rattle.std.proofs.Common.{arith}
use Rattle.first_broken.specs.Seen.{found_of}
use Rattle.effect_rules.specs.Seen.{effects_of}
use Rattle.effect_rules.proofs.Arms.{found_step}
use Rattle.effect_rules.proofs.marks.effects_found.Goals as goal

pub loop-value-preserved : goal.loop-value-preserved
loop-value-preserved c =
    found_step c.args.all.now c.loop-value.value-index c.value-item.result (found_of c.loop-value.found) (found_of c.both-found.result) (effects_of c.in_ok-own.own)
    (omega arith) c.value-item.is c.loop-value.invariant c.in_ok-own.ensures c.both-found.ensures
