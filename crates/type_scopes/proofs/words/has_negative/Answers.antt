use Rattle.std.proofs.Common.{arith}
use Rattle.type_scopes.specs.Seen.{env_of}
use Rattle.type_scopes.proofs.Rows.{negative_step}
use Rattle.type_scopes.proofs.words.has_negative.Goals as goal

pub loop-constant-preserved : goal.loop-constant-preserved
loop-constant-preserved c =
    negative_step (env_of c.args.env.now) c.args.constants.now c.loop-constant.constant-index c.constant-item.result c.or_found-found.result c.is_negative.result c.loop-constant.found
    (omega arith) c.constant-item.is c.or_found-found.ensures c.is_negative.ensures c.loop-constant.invariant
