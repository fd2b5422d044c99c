use Rattle.std.proofs.Common.{◌+◌, sym, subst}
use Rattle.type_scopes.specs.Seen.{env_of}
use Rattle.declaration_rules.specs.Earlier.{ArePasts}
use Rattle.declaration_rules.proofs.Pasts.{pasts_push}
use Rattle.declaration_rules.proofs.earlier.pasts_of.Goals as goal

pub past_at-requires : goal.past_at-requires
past_at-requires c = subst (λ ps. ArePasts (env_of c.args.env.now) c.args.model c.loop-place.place ps) (sym c.deref.ensures.value) c.loop-place.invariant

pub loop-place-preserved : goal.loop-place-preserved
loop-place-preserved c =
    subst (λ ps. ArePasts (env_of c.args.env.now) c.args.model (c.loop-place.place + 1) ps) (sym c.in_ok-push.ensures.items)
    (pasts_push (env_of c.args.env.now) c.args.model c.loop-place.place c.loop-place.pasts.items c.in_ok-past.past c.loop-place.invariant c.in_ok-past.ensures)
