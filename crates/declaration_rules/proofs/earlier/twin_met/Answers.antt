use Rattle.std.proofs.Common.{◌∙◌, ◌-◌, length, map, sym, arith}
use Rattle.std.proofs.lemmas.List.{length-map}
use Rattle.std.proofs.lemmas.Option.{slice_get_within}
use Rattle.type_scopes.specs.Seen as seen
use Rattle.declaration_rules.proofs.Twins.{passing_starts, passing_goes, next_less, met_found, none_met}
use Rattle.declaration_rules.proofs.earlier.twin_met.Goals as goal

pub twins-init : goal.twins-init
twins-init c =
    let xs = c.args.env.now.entries in
    let within = slice_get_within xs c.args.place c.args.entry.now c.requires in
    let long = length-map xs seen.entry_of in
    passing_starts (seen.declared_of c.args.entry.now) (map seen.entry_of xs) c.args.place c.twin_before-left.result (omega (arith, within, long)) (c.twin_before-left.ensures c.args.entry.now c.requires)

pub returns-then-meets_at : goal.returns-then-meets_at
returns-then-meets_at c =
    met_found (seen.declared_of c.args.entry.now) (map seen.entry_of c.args.env.now.entries) c.args.place c.twins.left (c.twins.left - 1) (omega (arith, c.twins-test.true)) (sym c.meets_at.ensures ∙ c.if-meets_at.true) c.twins.invariant

pub twins-smaller : goal.twins-smaller
twins-smaller c =
    next_less (seen.declared_of c.args.entry.now) c.args.env.now.entries c.args.place c.twins.left (c.twins.left - 1) c.twin_before-left-in-twins.result (omega (arith, c.twins-test.true)) c.twin_before-left-in-twins.ensures c.twins.invariant

pub twins-preserved : goal.twins-preserved
twins-preserved c =
    passing_goes (seen.declared_of c.args.entry.now) c.args.env.now.entries c.args.place c.twins.left (c.twins.left - 1) c.twin_before-left-in-twins.result (omega (arith, c.twins-test.true)) (sym c.meets_at.ensures ∙ c.if-meets_at.false) c.twin_before-left-in-twins.ensures c.twins.invariant

pub returns : goal.returns
returns c = none_met (seen.declared_of c.args.entry.now) (map seen.entry_of c.args.env.now.entries) c.args.place c.twins.left (omega (arith, c.twins-test.false)) c.twins.invariant
