use Rattle.std.proofs.Common.{arith, rules}
use Rattle.std.specs.Int.{w128}
use Rattle.std.proofs.lemmas.Int.{to_z-of_z}
use mir.Val.{SFits}
use Rattle.type_scopes.specs.Seen.{env_of}
use Rattle.typed_programs.proofs.Rows.{constants_step}
use Rattle.typed_programs.proofs.values.constants.Goals as goal

pub loop-part-preserved : goal.loop-part-preserved
loop-part-preserved c =
    let f : SFits w128 c.constant_as.result = search rules in
    constants_step (env_of c.args.env.now) c.args.model c.args.kind c.loop-part.values.items c.push.new.self.items c.args.parts.now c.loop-part.part-index c.part-item.result c.constant_as.result _
    (omega arith) c.part-item.is c.constant_as.ensures c.loop-part.invariant (to_z-of_z w128 c.constant_as.result f) c.in_ok-push.ensures.items
