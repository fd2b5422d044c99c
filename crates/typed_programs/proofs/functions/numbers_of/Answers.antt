use Rattle.std.proofs.Common.{arith}
use Rattle.type_scopes.specs.Seen.{env_of}
use Rattle.typed_programs.proofs.Rows.{numbers_step}
use Rattle.typed_programs.proofs.functions.numbers_of.Goals as goal

pub loop-parameter-preserved : goal.loop-parameter-preserved
loop-parameter-preserved c =
    numbers_step (env_of c.args.env.now) c.loop-parameter.numbers.items c.add_number.new.numbers.items c.args.parameters.now c.loop-parameter.parameter-index c.parameter-item.result c.parameter_at.result
    (omega arith) c.parameter-item.is c.parameter_at.ensures c.loop-parameter.invariant c.in_ok-add_number.ensures
