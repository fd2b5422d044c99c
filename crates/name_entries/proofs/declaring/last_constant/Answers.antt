use Rattle.std.proofs.Common.{◌<◌, length, ap, sym, ◌∙◌, Some, arith}
use Rattle.c_meaning.specs.Bindings.{constant_value, declared_at}
use Rattle.type_scopes.specs.Seen.{env_of}
use Rattle.type_scopes.specs.Steps.{place_of}
use Rattle.name_entries.proofs.Rows.{last_constant_is}
use Rattle.name_entries.proofs.declaring.last_constant.Goals as goal

pub returns-in-len1-up : goal.returns-in-len1-up
returns-in-len1-up c =
    let some : 0 < length c.args.before.now = omega (arith, c.in-len1-up.len_at_least) in
    c.constant_at.ensures ∙ ap (λ x. Some (constant_value (declared_at (env_of c.args.env.now) (place_of x)))) c.last-item.is ∙ sym (last_constant_is (env_of c.args.env.now) c.args.before.now c.last-item.result some)
