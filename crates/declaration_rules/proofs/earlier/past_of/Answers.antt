use Rattle.std.proofs.Common.{◌≡◌, ◌≤◌, ◌-◌, length, take, slice_get, sym, subst, arith}
use Rattle.std.proofs.lemmas.List.{length-map}
use Rattle.std.proofs.lemmas.Option.{slice_get_within}
use Rattle.std.proofs.lemmas.Result.{IfOk-weaker}
use Rattle.type_scopes.specs.Seen as seen
use Rattle.type_scopes.specs.Walking.{last_where}
use Rattle.declaration_rules.specs.Earlier as p
use Rattle.declaration_rules.proofs.Pasts.{none_known, past_known}
use Rattle.declaration_rules.proofs.earlier.past_of.Goals as goal

pub returns-then-left-eq0 : goal.returns-then-left-eq0
returns-then-left-eq0 c =
    let env = seen.env_of c.args.env.now in
    let x = seen.declared_of c.args.entry.now in
    let within = slice_get_within c.args.env.now.entries c.args.place c.args.entry.now c.requires.at in
    let long = length-map c.args.env.now.entries seen.entry_of in
    let few : c.args.place ≤ length env.entries = omega (arith, within, long) in
    let left = c.last_met-left.ensures in
    let none : last_where (p.is_met x) env.entries c.args.place ≡ 0 = omega (arith, left, c.if-left-eq0.true) in
    subst (λ q. p.IsPast env c.args.model (take c.args.place env.entries) x q) (sym c.nothing.ensures) (none_known env c.args.model env.entries x c.args.place few none)

pub returns : goal.returns
returns c =
    let env = seen.env_of c.args.env.now in
    let x = seen.declared_of c.args.entry.now in
    let left = c.last_met-left.result in
    let within = slice_get_within c.args.env.now.entries c.args.place c.args.entry.now c.requires.at in
    let long = length-map c.args.env.now.entries seen.entry_of in
    let few : c.args.place ≤ length env.entries = omega (arith, within, long) in
    let known = past_known env c.args.model c.args.place left x c.args.pasts.now few c.requires.known c.last_met-left.ensures (λ z. omega (arith, z, c.if-left-eq0.false)) in
    IfOk-weaker c.behind_at.result
    (λ r. r ≡ p.behind_at env c.args.model x.what (slice_get env.entries (left - 1)) (slice_get c.args.pasts.now (left - 1)))
    (λ r. p.IsPast env c.args.model (take c.args.place env.entries) x r)
    (λ r e. subst (λ q. p.IsPast env c.args.model (take c.args.place env.entries) x q) (sym e) known) c.behind_at.ensures
