use Rattle.std.proofs.Common.{◌∙◌, ap, refl, arith}
use Rattle.c_tree.specs.View.{expr}
use Rattle.c_typed.specs.View.{value}
use Rattle.type_scopes.specs.Seen.{env_of}
use Rattle.typed_statements.proofs.Rows.{as_step}
use Rattle.typed_statements.proofs.declarations.typed_list_as.Goals as goal

pub loop-part-preserved : goal.loop-part-preserved
loop-part-preserved c =
    as_step (env_of c.args.env.now) c.args.model c.args.bodies.now c.args.kind c.loop-part.values.items c.push.new.self.items c.into_inner.result
    c.args.parts.now c.loop-part.part-index c.part-item.result (expr c.part-item.result.value.value) (omega arith) c.part-item.is refl c.loop-part.invariant
    (ap value c.into_inner.ensures ∙ c.in_ok-value.ensures) c.in_ok-push.ensures.items
