use Rattle.std.proofs.Common.{arith}
use Rattle.first_broken.specs.Seen.{found_of}
use Rattle.type_scopes.specs.Seen.{env_of}
use Rattle.typing_rules.proofs.Arms.{values_step}
use Rattle.typing_rules.proofs.lines.value_lines.Goals as goal

pub loop-part-preserved : goal.loop-part-preserved
loop-part-preserved c =
    values_step (env_of c.args.env.now) c.args.model c.args.parts.now c.loop-part.part-index c.part-item.result c.deref.result.now (found_of c.loop-part.all) (found_of c.value_line.result) (found_of c.both-all.result)
    (omega arith) c.part-item.is c.deref.ensures c.loop-part.invariant c.value_line.ensures c.both-all.ensures
